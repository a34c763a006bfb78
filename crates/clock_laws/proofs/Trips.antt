-- The round trips of any counter whose clock stands on the axis where it is accepted. Where both ways are answered, a count turned into a
-- time and back is the same count, second 60 included; a time turned into a count and back is never later, and less than what the clock
-- gains earlier, in TAI under a UTC correlation. Assumes nothing.
use mathlib.Core.Path.{◌≡◌, refl, sym, ap, ap₂, ◌∙◌}
use mathlib.Core.Bool.{Bool, true}
use mathlib.Core.List.{List}
use Prim.Native.Nat.{ℕ, suc, ◌*◌, ◌%◌, ◌≤◌, ◌<◌}
use native.Mathlib.Nat.{mod-eq_of_lt}
use native.Mathlib.Omega.{arith}
use lib.IntN.{ℤ, pos, ◌+ℤ◌}
use lib.Signed.{le_z}
use borrow.Author.Tests.{eq-eqb}
use Rattle.axis.specs.Meaning.{Moment}
use Rattle.scales.specs.Meaning.{code_of, answer, outcome, record_of, marked_record}
use Rattle.scales.specs.declared.Scale.{Scale}
use Rattle.scales.specs.declared.Mark.{Mark}
use Rattle.handed.specs.declared.Handed.{Handed}
use Rattle.handed.specs.declared.Handed.TheVariants as H
use Rattle.handed.specs.Meaning.{scale_of, is_finite, is_in_span, day_of, micro_of}
use Rattle.clock.specs.Meaning.{Clock, instant, is_current, has_second, elapsed, time, covers, dating, last_count, count_at, instant_of, has_image, turning}
use Rattle.clock.specs.Places.{Based}
use Rattle.clock.specs.Window.{Runs, divided, divided_time, divided_early, divided_close, covers_time_lem, last_is, divided_window}
use Rattle.clock_laws.proofs.Counts.{count_whole, elapsed_from}
use Rattle.clock_laws.proofs.Answers.{KnownAt, Dates, dates, Turns, turns, exactly, exact, window_elapsed}

-- h is handed in for the moment m of scale s
pub record Stands (h : Handed) (s : Scale) (m : Moment) : Type 0 where
  pub scale : scale_of h ≡ s
  pub day : day_of h ≡ m.day
  pub micro : micro_of h ≡ m.micro

module _ (accepted : Bool) (c : Clock) (r : ℕ) (based : accepted ≡ true → Based c r) (ds : List ℤ) (os : List ℕ) (e : ℤ) where
  module _ (t : ℕ) (d : ℤ) (u : ℕ) (m : Moment) (g : outcome (dating accepted c t d u ds os e) ≡ answer m) where
    q : Dates accepted c t d u ds os e m
    q = dates accepted c t d u ds os e m g

    a : Runs c
    a = (based q.accepts).runs

    k : ℤ
    k = elapsed c t

    cover_k : covers c (time c k) ≡ true
    unfolding k
    cover_k = covers_time_lem c a (elapsed c t) q.window

    last_k : count_at c (last_count c (time c k)) ≡ t % (2 * c.half)
    unfolding k
    last_k =
        ap (count_at c) (last_is c a (time c (elapsed c t)) cover_k ∙ divided_time c a (elapsed c t))
        ∙ elapsed_from c (omega (arith, a.ahead_to)) t

    at : KnownAt c.scale m ds os e (time c k)
    unfolding k
    at = exactly accepted c r based t d u ds os e m g

    module _ (h : Handed) (s : Stands h c.scale m) where
      image_at_lem : has_image c.scale h ≡ true
      image_at_lem = eq-eqb (code_of (scale_of h)) (code_of c.scale) (ap code_of s.scale)

      current_at : is_current c.scale e (day_of h) ≡ true
      current_at = ap (is_current c.scale e) s.day ∙ at.current

      second_at : has_second c.scale ds (day_of h) (micro_of h) ≡ true
      second_at = ap₂ (has_second c.scale ds) s.day s.micro ∙ at.second

      instant_at : instant_of c.scale ds os h ≡ time c k
      instant_at = ap₂ (instant c.scale ds os) s.day s.micro ∙ at.is

      -- a time that stands for a count's date and is finite and of its span is answered with that count
      pub comes_back : t < 2 * c.half → is_finite h ≡ true → is_in_span h ≡ true → outcome (turning accepted c h ds os e) ≡ answer t
      comes_back l f i =
          rw (f, q.serves, q.accepts, i, image_at_lem, q.reference, current_at, second_at, instant_at, cover_k) (ap answer (last_k ∙ mod-eq_of_lt l))

      -- wherever both ways are answered
      pub same_count : t < 2 * c.half → (n : ℕ) → outcome (turning accepted c h ds os e) ≡ answer n → n ≡ t
      same_count l n f = let w = turns accepted c h ds os e n f in let g = comes_back l w.finite w.inside in cc

    -- the record of a date is answered always, with the date's own mark or any other
    pub record_back : (n : Mark) → t < 2 * c.half →
        outcome (turning accepted c (H.Record (marked_record n (record_of c.scale m.day m.micro))) ds os e) ≡ answer t
    record_back n l =
        comes_back (H.Record (marked_record n (record_of c.scale m.day m.micro))) (record { scale = refl; day = refl; micro = refl }) l refl q.span

  module _ (h : Handed) (n : ℕ) (g : outcome (turning accepted c h ds os e) ≡ answer n) where
    abbrev z : ℤ
    z = instant_of c.scale ds os h

    w : Turns accepted c h ds os e n
    w = turns accepted c h ds os e n g

    b : Runs c
    b = (based w.accepts).runs

    abbrev x : ℤ
    x = divided c z

    -- the elapsed count of the answer is the division's
    count_is : x ≡ elapsed c n
    count_is =
        let i = ap (count_at c) (sym (last_is c b z w.cover)) ∙ w.is in
        window_elapsed c b n x (divided_window c b z w.cover)
        (sym (count_whole c (omega (arith, b.ahead_to)) x) ∙ ap (λ (y : ℕ). y % (2 * c.half)) i)

    module _ (d : ℤ) (u : ℕ) (m : Moment) (f : outcome (dating accepted c n d u ds os e) ≡ answer m) where
      dated_at : instant c.scale ds os m.day m.micro ≡ time c x
      dated_at = exact accepted c r based n d u ds os e m f ∙ ap (time c) (sym count_is)

      pub never_later : le_z (instant c.scale ds os m.day m.micro) (instant_of c.scale ds os h) ≡ true
      never_later = ap (λ (y : ℤ). le_z y z) dated_at ∙ divided_early c b z

      -- where the clock gains at most s + 1 microseconds
      pub little_earlier : (s : ℕ) → (accepted ≡ true → c.gain ≤ suc s * c.per) →
          le_z (instant_of c.scale ds os h) (instant c.scale ds os m.day m.micro +ℤ pos s) ≡ true
      little_earlier s g = ap (λ (y : ℤ). le_z z (y +ℤ pos s)) dated_at ∙ divided_close c b s (g w.accepts) z
