-- Plain readers that are put together of others.
pub use Rattle.sshkey_model.proofs.CombinedReaders.{bind_ok, bind_assoc, done, ok_is, chosen, passed, met, bytes_fit, fit_bytes, are_bytes-append, number_bytes, fits_both, fits_first, fits_second, fits_box, fits_inside, fits_length, fits_bytes, fits_number, ReadsFront, ReadsWhole, prefix, injective, bytes_reads, all_reads, IsWide, wide8, wide32, wide64, number_reads, box_reads, same_front, bind_same, string_reads, whole_reads, then_reads, checked_reads, checked_whole_reads, boxed_checks, checked_string_reads, to_form, kept, kept_bytes, literal_reads, as_front_form, as_whole_form, list_reads}
