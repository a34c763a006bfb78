-- Wrong programs that met older statements of the changes, and do not meet those in their place. Assumes nothing.
use mathlib.Core.Path.{◌≡◌, refl, sym, ◌∙◌}
use mathlib.Core.Bool.{Bool, true, false, not}
use mathlib.Core.List.{List}
use Prim.Native.Nat.{ℕ, ◌-◌}
use native.Mathlib.Omega.{arith}
use lib.IntN.{ℤ, pos, negsuc, ◌+ℤ◌}
use lib.ListN.{length, get_or}
use borrow.Author.Tests.{ltb-false, le-ltb}
use Rattle.evidence.specs.ShutOut.{Outgrown}
use Rattle.axis.specs.Meaning.{Moment, since, moment_of}
use Rattle.scales.specs.Meaning.{in_span, Judged, given, answer, outcome, Slip, dated, moment_at, resulting}
use Rattle.scales.specs.declared.Scale.TheVariants as S
use Rattle.leap.specs.Meaning.{seconds, accepted, has_micro, is_expired_day, published_days, published_offsets, published_last}
use Rattle.leap.specs.Published.{published}
use Rattle.changes.specs.Meaning.{gps_to_tai}
use Rattle.leap_laws.proofs.Computed.{published_6209, earlier_days, earlier_offsets, earlier_last, earlier}
use Rattle.leap_laws.proofs.Changes as C
use Rattle.leap_laws.proofs.Functions as F
use Rattle.ground_laws.proofs.Desks.{answered, by_micro}

-- ---- demand 3: the last step's offset for every day. Where the fresh list has the old one's steps no answer changes, and where it has one
-- more every old date does
abbrev made : Judged Moment → Slip
made j = dated S.Tai (outcome j)

abbrev last_of : List ℕ → ℕ
last_of os = get_or os (length os - 1) 0

abbrev by_last : List ℤ → List ℕ → ℤ → ℤ → ℕ → Slip
by_last ds os e d u =
    made
    (given (accepted ds os e) 5
    (given (in_span S.Utc d u) 7
    (given (not (is_expired_day e d)) 9
    (given (has_micro ds d u) 10
    (resulting S.Tai (moment_of (since d u +ℤ seconds (last_of os))))))))

abbrev Stays : List ℤ → List ℕ → ℤ → Type 0
Stays ds os e = (d : ℤ) (u : ℕ) → ((by_last ds os e d u).number ≡ 9 → ⊥) → by_last published_days published_offsets published_last d u ≡ by_last ds os e d u

expired_later : (d : ℤ) → is_expired_day (pos 6209) d ≡ false → is_expired_day published_last d ≡ false
expired_later (pos n) e = le-ltb 9131 n (omega (arith, ltb-false 6209 n e))
expired_later (negsuc n) e = refl

by_last_earlier : by_last earlier_days earlier_offsets earlier_last (pos 5999) 0 ≡ answered S.Tai (pos 5999) 36000000
by_last_earlier = rw earlier

by_last_published : by_last published_days published_offsets published_last (pos 5999) 0 ≡ answered S.Tai (pos 5999) 37000000
by_last_published = rw published

pub last_offset : Outgrown (Stays published_days published_offsets (pos 6209)) (Stays earlier_days earlier_offsets earlier_last)
last_offset = (same, changed)
  where
    same : Stays published_days published_offsets (pos 6209)
    same d u k = rw (published, published_6209) (go (in_span S.Utc d u) (is_expired_day (pos 6209) d) (expired_later d) (rw published_6209 at k))
      where
        rest : Judged Moment
        rest = given (has_micro published_days d u) 10 (resulting S.Tai (moment_of (since d u +ℤ seconds 37)))

        go : (i x : Bool) → (x ≡ false → is_expired_day published_last d ≡ false) → ((made (given i 7 (given (not x) 9 rest))).number ≡ 9 → ⊥)
            → made (given i 7 (given (not (is_expired_day published_last d)) 9 rest)) ≡ made (given i 7 (given (not x) 9 rest))
        go false x w k = refl
        go true true w k = absurd (k refl)
        go true false w k = rw (w refl)

    changed : Stays earlier_days earlier_offsets earlier_last → ⊥
    changed w =
        let q = w (pos 5999) 0 (λ n. let z : ◌≡◌ {A = ℕ} 0 9 = (λ i. (sym by_last_earlier i).number) ∙ n in omega arith) in
        by_micro (λ z. omega arith) (sym by_last_published ∙ q ∙ by_last_earlier)

-- ---- TAI to GPS that gives day 0 for everything: laws of counts say nothing of it
abbrev lost_gps : ℕ → Slip
lost_gps n = F.answered F.named S.Gps 3456000000000000

day_zero_back : gps_to_tai 3456000000000000 ≡ answered S.Tai (pos 0) 19000000
unfolding gps_to_tai
day_zero_back = refl

pub functions_unsaid :
    Outgrown ((n k : ℕ) → C.changed S.Tai S.Gps published_days published_offsets published_last n ≡ answer (moment_at S.Gps k) → C.changed S.Gps S.Tai published_days published_offsets published_last k ≡ answer (moment_at S.Tai n))
    ((n k : ℕ) → lost_gps n ≡ F.answered F.named S.Gps k → F.function F.named F.gps_tai published_days published_offsets published_last k ≡ F.answered F.named S.Tai n)
functions_unsaid = (
  C.round published_days published_offsets published_last published S.Tai S.Gps,
  λ w. by_micro (λ z. omega arith) (sym day_zero_back ∙ w 3456000000000000 3456000000000000 refl),
)
