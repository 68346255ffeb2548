use Rattle.std.proofs.Common.{◌≡◌, ◌<◌, ◌%◌, ℕ, length, refl, sym, ap, ◌∙◌, arith, subst, eq-eqb}
use Rattle.std.proofs.lemmas.Bool.{ne_eqb}
use Rattle.sshkey_model.specs.KeyDerivation.{Cipher, NoCipher, TDesCbc, ChaCha20Poly1305, block_size}
use Rattle.sshkey_ciphers.specs.Ciphers.{cipher_of}
use Rattle.sshkey_ciphers.proofs.ciphertext.check_blocks.Goals as goal

-- a block has bytes
some_block : (c : Cipher) → 0 < block_size c
some_block NoCipher = omega arith
some_block TDesCbc = omega arith
some_block ChaCha20Poly1305 = omega arith
some_block _ = omega arith

rest_is : (l m n k : ℕ) → l ≡ n → m ≡ k → l % m ≡ n % k
rest_is l m n k length block = ap (λ (x : ℕ). x % m) length ∙ ap (λ (x : ℕ). n % x) block

pub nonzero_rem-len : goal.nonzero_rem-len
nonzero_rem-len c = subst (λ (n : ℕ). 0 < n) (sym c.block_size.ensures) (some_block (cipher_of c.args.cipher))

pub returns-then-len-block_size-ne0-clause-answers : goal.returns-then-len-block_size-ne0-clause-answers
returns-then-len-block_size-ne0-clause-answers c =
    let rest = rest_is _ _ _ _ (c.len.ensures ∙ c.args.ciphertext.ok.0) c.block_size.ensures in
    rw (ne_eqb (length c.args.ciphertext.items % block_size (cipher_of c.args.cipher)) 0 (λ none. c.if-len-block_size-ne0.true (rest ∙ none))) refl

pub returns-then-len-block_size-ne0-clause-whole : goal.returns-then-len-block_size-ne0-clause-whole
returns-then-len-block_size-ne0-clause-whole c = tt

pub returns-clause-answers : goal.returns-clause-answers
returns-clause-answers c =
    let rest = rest_is _ _ _ _ (c.len.ensures ∙ c.args.ciphertext.ok.0) c.block_size.ensures in
    rw (eq-eqb (length c.args.ciphertext.items % block_size (cipher_of c.args.cipher)) 0 (sym rest ∙ c.if-len-block_size-ne0.false)) refl

pub returns-clause-whole : goal.returns-clause-whole
returns-clause-whole c = sym (rest_is _ _ _ _ (c.len.ensures ∙ c.args.ciphertext.ok.0) c.block_size.ensures) ∙ c.if-len-block_size-ne0.false
