-- Worked examples, on both sides of each edge: days as timegm(3) counts them, and times as OpenSSH
-- reads them (misc.c, parse_absolute_time; strptime(3)).
use Rattle.std.specs.Prelude.{◌≡◌, ◌+◌, ◌-◌, ◌*◌, ℕ, [], ◌∷◌, ◌++◌, map, false, true, codes}
use Rattle.sshkey_matching.specs.Times.{HasTimeForm, IsMoment, IsTimeText, IsZone, after, ahead, days_before, days_of_months, epoch, is_leap, moment, month_days, year_days}
use Rattle.sshkey_matching.specs.declared.times.Span.{Span}

-- Of the centuries every fourth is a leap year.
abbrev pub LeapYears : Type 0
LeapYears = (is_leap 1900 ≡ false) × (is_leap 2000 ≡ true) × (is_leap 2023 ≡ false) × (is_leap 2024 ≡ true) × (year_days 2023 ≡ 365) × (year_days 2024 ≡ 366)

abbrev pub Months : Type 0
Months = (map (month_days 2023) (1 ∷ 2 ∷ 3 ∷ 4 ∷ 5 ∷ 6 ∷ 7 ∷ 8 ∷ 9 ∷ 10 ∷ 11 ∷ 12 ∷ []) ≡ 31 ∷ 28 ∷ 31 ∷ 30 ∷ 31 ∷ 30 ∷ 31 ∷ 31 ∷ 30 ∷ 31 ∷ 30 ∷ 31 ∷ []) × (month_days 2024 2 ≡ 29)

-- the days before 1970, of which the seconds are counted, and before March and December; and those
-- from the start of 1970 to the 1st of March of a leap year
abbrev pub Days : Type 0
Days = (epoch ≡ 719528 * 86400) × (days_of_months 2023 2 ≡ 59) × (days_of_months 2024 2 ≡ 60) × (days_of_months 2023 11 ≡ 334)
    × (days_before (moment (codes "19700101")) ≡ 719528) × (days_before (moment (codes "20240301")) ≡ 719528 + 19783)

abbrev pub Moments : Type 0
Moments = (moment (codes "20231130225958") ≡ record { year = 2023; month = 11; day = 30; hour = 22; minute = 59; second = 58 })
    × (moment (codes "202311302259") ≡ record { year = 2023; month = 11; day = 30; hour = 22; minute = 59; second = 0 })
    × (moment (codes "20231130") ≡ record { year = 2023; month = 11; day = 30; hour = 0; minute = 0; second = 0 })

-- The zones of the world are from 12 hours after UTC, of which summer takes one more, to 14 ahead.
abbrev pub Zones : Type 0
Zones = (ahead [] ≡ 14 * 3600) × (after [] ≡ 13 * 3600) × (ahead (codes "Z") ≡ 0) × (after (codes "utc") ≡ 0)
    × IsZone [] × IsZone (codes "Z") × IsZone (codes "z") × IsZone (codes "UTC") × IsZone (codes "uTc")
    × ¬ IsZone (codes "gmt") × ¬ IsZone (codes "ZZ") × ¬ IsZone (codes "+0100") × ¬ IsZone (codes " Z")

-- the first and the last of each part, and those beside them
abbrev pub Edges : Type 0
Edges = IsMoment (moment (codes "00000101000000")) × IsMoment (moment (codes "99991231235961"))
    × ¬ IsMoment (moment (codes "20230031000000")) × ¬ IsMoment (moment (codes "20231331000000"))
    × ¬ IsMoment (moment (codes "20231200000000")) × ¬ IsMoment (moment (codes "20231232000000"))
    × ¬ IsMoment (moment (codes "20231231240000")) × ¬ IsMoment (moment (codes "20231231236000"))
    × ¬ IsMoment (moment (codes "20231231235962"))

-- Of 8, 12 and 14 digits, and of no other number, a space or a tab among them.
abbrev pub Forms : Type 0
Forms = HasTimeForm (codes "20231231") × HasTimeForm (codes "202312312359Z") × HasTimeForm (codes "20231231235961utc") × HasTimeForm (codes "19691231Z")
    × ¬ HasTimeForm (codes "2023123") × ¬ HasTimeForm (codes "202312311") × ¬ HasTimeForm (codes "2023123123") × ¬ HasTimeForm (codes "20231231235")
    × ¬ HasTimeForm (codes "2023123123596") × ¬ HasTimeForm (codes "202312312359590") × ¬ HasTimeForm [] × ¬ HasTimeForm (codes "Z")
    × ¬ HasTimeForm (codes "2023 1 1Z") × ¬ HasTimeForm (codes "2023" ++ (0x09 ∷ codes "1231Z")) × ¬ HasTimeForm (codes "20231331")
    × ¬ HasTimeForm (codes "20231231GMT")

abbrev at : ℕ → Span
at second = record { first = second; last = second }

-- The 31st of a month and the last two seconds of a minute may be of the next one.
abbrev pub Seconds : Type 0
Seconds = IsTimeText (codes "20231114221320Z") (at 1700000000) × IsTimeText (codes "20240229utc") (at 1709164800)
    × IsTimeText (codes "20230230Z") (at 1677715200) × IsTimeText (codes "20231231235961Z") (at 1704067201)
    × IsTimeText (codes "20231114221320") (record { first = 1700000000 - 14 * 3600; last = 1700000000 + 13 * 3600 })

-- The first time is a second after the start of 1970, and 14 hours later where no zone is named.
abbrev pub FirstTimes : Type 0
FirstTimes = IsTimeText (codes "19700101000001Z") (at 1) × IsTimeText (codes "19700101140001") (record { first = 1; last = 1 + 27 * 3600 })
    × ((s : Span) → IsTimeText (codes "19700101Z") s → ⊥) × ((s : Span) → IsTimeText (codes "19700101140000") s → ⊥)
    × ((s : Span) → IsTimeText (codes "19691231235959Z") s → ⊥)
