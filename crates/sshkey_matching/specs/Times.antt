-- The times of allowed signers and of `expiry-time` (ssh-keygen(1), "ALLOWED SIGNERS": YYYYMMDD,
-- YYYYMMDDHHMM or YYYYMMDDHHMMSS, and Z), as OpenSSH reads them (strptime(3), timegm(3)).
use Rattle.std.specs.Prelude.{◌≡◌, ◌⊎◌, ℕ, zero, suc, ◌+◌, ◌-◌, ◌*◌, ◌%◌, ◌<◌, List, [], length, map, drop, slice_index, codes, Bool, not, Option, MatchOption, ◌&&◌, ◌||◌, ◌==◌, if◌then◌else◌}
use Rattle.std.specs.Char.{is_ascii_digit, to_ascii_lowercase}
use Rattle.std.specs.Int.{IsInRange}
use Rattle.std.specs.List.{prefix_len, take_while}
use Rattle.sshkey_matching.specs.declared.times.Moment.{Moment}
use Rattle.sshkey_matching.specs.declared.times.Span.{Span}

-- ---- the calendar

-- every fourth year, and of the centuries every fourth
abbrev pub is_leap : ℕ → Bool
is_leap year = (year % 4 == 0) && (not (year % 100 == 0) || (year % 400 == 0))

abbrev pub year_days : ℕ → ℕ
year_days year = if is_leap year then 366 else 365

-- thirty days have April, June, September and November
abbrev pub month_days : ℕ → ℕ → ℕ
month_days year month = if month == 2 then (if is_leap year then 29 else 28) else if (month == 4) || (month == 6) || (month == 9) || (month == 11) then 30 else 31

-- the days of the first n years, from the year 0 on
unfoldable pub days_of_years : ℕ → ℕ
days_of_years zero = 0
days_of_years (suc n) = days_of_years n + year_days n

-- the days of the first n months of a year
unfoldable pub days_of_months : ℕ → ℕ → ℕ
days_of_months year zero = 0
days_of_months year (suc n) = days_of_months year n + month_days year (suc n)

-- the days from the start of the year 0 to a moment's
abbrev pub days_before : Moment → ℕ
days_before m = days_of_years m.year + days_of_months m.year (m.month - 1) + (m.day - 1)

-- the seconds from the start of the year 0 to the moment
abbrev pub seconds_before : Moment → ℕ
seconds_before m = ((days_before m * 24 + m.hour) * 60 + m.minute) * 60 + m.second

-- the seconds from the start of the year 0 to that of 1970
abbrev pub epoch : ℕ
epoch = days_of_years 1970 * 86400

-- ---- the text

-- the digits in front, and what follows them
abbrev pub digits : List ℕ → List ℕ
digits text = take_while is_ascii_digit text

abbrev pub zone : List ℕ → List ℕ
zone text = drop (prefix_len is_ascii_digit text) text

-- the number of two digits from a place on, 0 where there are none
abbrev pub two_digits : List ℕ → ℕ → ℕ
two_digits text place = 10 * (slice_index text place - 0x30) + (slice_index text (place + 1) - 0x30)

-- YYYYMMDDHHMMSS, or the beginning of it
abbrev pub moment : List ℕ → Moment
moment text = record {
  year = 100 * two_digits text 0 + two_digits text 2;
  month = two_digits text 4;
  day = two_digits text 6;
  hour = two_digits text 8;
  minute = two_digits text 10;
  second = two_digits text 12;
}

-- where no zone is named, the seconds by which one is ahead of UTC at most: 14 hours
abbrev pub ahead : List ℕ → ℕ
ahead zone = if length zone == 0 then 50400 else 0

-- and by which one is after it at most: 12 hours, and one of summer. By that hour OpenSSH 10.6
-- differs from those before it.
abbrev pub after : List ℕ → ℕ
after zone = if length zone == 0 then 46800 else 0

-- None is named, or UTC is.
abbrev pub IsZone : List ℕ → Type 0
IsZone text = (text ≡ []) ⊎ (map to_ascii_lowercase text ≡ codes "z") ⊎ (map to_ascii_lowercase text ≡ codes "utc")

-- Each month may be of 31 days, and each minute of 62 seconds: those that it does not have are of
-- the next one.
pub record IsMoment (m : Moment) : Type 0 where
  pub month : IsInRange 1 12 m.month
  pub day : IsInRange 1 31 m.day
  pub hour : m.hour < 24
  pub minute : m.minute < 60
  pub second : m.second < 62

-- A text of the form of a time, whatever its year.
pub record HasTimeForm (text : List ℕ) : Type 0 where
  pub size : (length (digits text) ≡ 8) ⊎ (length (digits text) ≡ 12) ⊎ (length (digits text) ≡ 14)
  pub in_utc : IsZone (zone text)
  pub valid : IsMoment (moment (digits text))

-- The text is a time, which may be any from the first of these seconds after the start of 1970 to
-- the last: one second if it names UTC. The first is at least 1.
pub record IsTimeText (text : List ℕ) (s : Span) : Type 0 where
  pub form : HasTimeForm text
  pub first : seconds_before (moment (digits text)) ≡ epoch + ahead (zone text) + s.first
  pub last : seconds_before (moment (digits text)) + after (zone text) ≡ epoch + s.last
  pub later : 0 < s.first

-- the one span that it is; or it is none
abbrev pub ReadsTime : List ℕ → Option Span → Type 0
ReadsTime text result = MatchOption result ((s : Span) → IsTimeText text s → ⊥) (λ s. IsTimeText text s × ((u : Span) → IsTimeText text u → u ≡ s))
