-- What the functions of the C interface share: what a code, a mark or a handed time that is found or refused tells, and 3 before
-- what a library judges. Assumes nothing.
use Rattle.std.proofs.Common.{◌≡◌, refl, sym, ap, subst, ◌∙◌, Bool, true, false, cond, List, ℕ, ◌<◌, ℤ, Float, Option, Some, None, Result, Ok, Err, arith, ok_or, le-leb, leb-false, eq-eqb, ne_eqb}
use Rattle.std.proofs.lemmas.Bool.{lt-leb}
use Rattle.std.proofs.lemmas.Option.{cond_some, none-some}
use Rattle.scales.specs.declared.Scale.{Scale}
use Rattle.scales.specs.declared.Scale.TheVariants as S
use Rattle.scales.specs.declared.Refusal.{Refusal}
use Rattle.scales.specs.declared.Refusal.TheVariants as R
use Rattle.scales.specs.declared.Mark.{Mark}
use Rattle.scales.specs.Meaning.{Judged, refused, outcome, written, wrote, slip, count_slip, refused_of, scale_at, record_of, marked_record}
use Rattle.scales.specs.Place.{and_false}
use Rattle.handed.specs.declared.Handed.{Handed}
use Rattle.handed.specs.declared.Handed.TheVariants as H
use Rattle.decimal.specs.Meaning.{read_of, WroteDay, decimal_slip}
use Rattle.sbt.specs.Meaning.{tick_of}
use Rattle.goce.specs.Meaning.{obt_of}
use Rattle.changes.specs.Meaning.{change_of}
use Rattle.text_write.specs.Meaning.{write_text}
use Rattle.text_write.specs.declared.Form.{Form}
use Rattle.c_api.specs.declared.VrkHanded.{VrkHanded}
use Rattle.c_api.specs.declared.VrkSbtCorrelation.{VrkSbtCorrelation}
use Rattle.c_api.specs.declared.bytes.VrkWritten.{VrkWritten}
use Rattle.c_api.specs.declared.counts.VrkGoceCorrelation.{VrkGoceCorrelation}
use Rattle.c_api.specs.Marks.{known_mark, mark_at, marked_by}
use Rattle.c_api.specs.Meaning.{known_scale, known, handed_of, time_out, decimal_out, count_out, decimal_read, DecimalWrote, correlation_of, sbt_tick, changed, named_by, record_given, given_of}
use Rattle.c_api.specs.Bytes.{wrote_of, written_out, writes, handed_writing}
use Rattle.c_api.specs.Counts.{goce_of, goce_count}
use Rattle.c_api.specs.Texts.{known_form, form_at, named_form, text_writing}

-- ---- an answer picked by a test tells the test
module _ {A : Type 0} where
  found : (t : Bool) (a b : A) → cond t (Some a) None ≡ Some b → (t ≡ true) × (b ≡ a)
  found t a b e = let k = cond_some t a b e in (k.0, sym k.1)

  missed : (t : Bool) (a : A) → cond t (Some a) None ≡ None → t ≡ false
  missed true a e = absurd (none-some a (sym e))
  missed false a e = refl

  either : (t : Bool) (a : A) → a ≡ cond t a a
  either true a = refl
  either false a = refl

  module _ {E : Type 0} (x : E) where
    kept : (t : Bool) (a b : A) → cond t (Ok a) (Err x) ≡ Ok b → (t ≡ true) × (b ≡ a)
    kept true a b e = (refl, cc)
    kept false a b e = let z : ◌≡◌ {A = ℕ} 0 1 = cc in absurd (omega arith)

    dropped : (t : Bool) (a : A) (y : E) → cond t (Ok a) (Err x) ≡ Err y → (t ≡ false) × (y ≡ x)
    dropped true a y e = let z : ◌≡◌ {A = ℕ} 0 1 = cc in absurd (omega arith)
    dropped false a y e = (refl, cc)

    good_or : (o : Option A) (a : A) → ok_or o x ≡ Ok a → o ≡ Some a
    good_or (Some b) a e = cc
    good_or None a e = let z : ◌≡◌ {A = ℕ} 0 1 = cc in absurd (omega arith)

    bad_or : (o : Option A) (y : E) → ok_or o x ≡ Err y → (o ≡ None) × (y ≡ x)
    bad_or (Some b) y e = let z : ◌≡◌ {A = ℕ} 0 1 = cc in absurd (omega arith)
    bad_or None y e = (refl, cc)

-- ---- scales by code
module _ (c : ℕ) where
  pub named_good : (s : Scale) → named_by c ≡ Some s → (known_scale c ≡ true) × (s ≡ scale_at c)
  unfolding named_by
  named_good s e = found (known_scale c) (scale_at c) s e

  -- an unknown code stands for TAI
  pub named_bad : named_by c ≡ None → (known_scale c ≡ false) × (scale_at c ≡ S.Tai)
  unfolding named_by
  named_bad e =
      let k = missed (known_scale c) (scale_at c) e in
      let h : 2 < c = leb-false c 2 k in
      (k, rw (ne_eqb c 1 (λ q. omega arith), ne_eqb c 2 (λ q. omega arith)))

-- ---- marks by code and source, and a record of a known scale
module _ (s : Scale) (d : ℤ) (u c x : ℕ) where
  pub record_known : (m : Mark) → marked_by c x ≡ Some m → Some (H.Record (marked_record m (record_of s d u))) ≡ record_given s d u c x
  unfolding record_given marked_by
  record_known m e = let k = found (known_mark c x) (mark_at c x) m e in rw (k.0, k.1)

  pub record_unknown : marked_by c x ≡ None → None ≡ record_given s d u c x
  unfolding record_given marked_by
  record_unknown e = rw (missed (known_mark c x) (mark_at c x) e)

-- ---- what is handed in
abbrev record_of_time : VrkHanded → Handed
record_of_time h = H.Record (marked_record (mark_at h.mark h.source) (record_of (scale_at h.scale) h.day h.micro))

module _ (h : VrkHanded) where
  pub unnamed : (f : Refusal) → ok_or (named_by h.scale) R.FieldOver ≡ Err f → Err f ≡ given_of h
  unfolding given_of
  unnamed f e = let k = bad_or R.FieldOver (named_by h.scale) f e in rw (k.1, (named_bad h.scale k.0).0)

  pub unkind : 1 < h.kind → Err R.FieldOver ≡ given_of h
  unfolding given_of
  unkind k = rw (lt-leb h.kind 1 k, and_false (known_scale h.scale))

  module _ (s : Scale) (e : ok_or (named_by h.scale) R.FieldOver ≡ Ok s) where
    named : (known_scale h.scale ≡ true) × (s ≡ scale_at h.scale)
    named = named_good h.scale s (good_or R.FieldOver (named_by h.scale) s e)

    pub given_record : h.kind ≡ 0 → ok_or (record_given s h.day h.micro h.mark h.source) R.FieldOver ≡ given_of h
    unfolding given_of record_given
    given_record k = rw (named.0, le-leb h.kind 1 (omega arith), eq-eqb h.kind 0 k, named.1) (go (known_mark h.mark h.source))
      where
        go : (t : Bool) → ok_or (cond t (Some (record_of_time h)) None) R.FieldOver ≡ cond t (Ok (record_of_time h)) (Err R.FieldOver)
        go true = refl
        go false = refl

    pub given_decimal : h.kind ≡ 1 → Ok (H.Decimal h.decimal s) ≡ given_of h
    unfolding given_of
    given_decimal k = rw (named.0, le-leb h.kind 1 (omega arith), ne_eqb h.kind 0 (λ z. omega arith), named.1)

  pub given_good : (t : Handed) → given_of h ≡ Ok t → (known h ≡ true) × (t ≡ handed_of h)
  unfolding given_of
  given_good t e = kept R.FieldOver (known h) (handed_of h) t e

  pub given_bad : (f : Refusal) → given_of h ≡ Err f → (known h ≡ false) × (f ≡ R.FieldOver)
  unfolding given_of
  given_bad f e = dropped R.FieldOver (known h) (handed_of h) f e

-- ---- a writer
wrote_out : (r : VrkWritten) (w : Result ℕ Refusal) (out : List ℕ) → r ≡ written_out w → wrote_of r out ≡ wrote w out
wrote_out r (Ok n) out e = rw e
wrote_out r (Err f) out e = rw e

-- of a handed time
module _ (m : Handed → List ℕ → Judged (List ℕ)) (h : VrkHanded) (out : List ℕ) where
  pub handed_three : (f : Refusal) → given_of h ≡ Err f → wrote_of (record { refusal = 3; length = 0 }) out ≡ writes (handed_writing m h) out
  unfolding writes
  handed_three f e = rw ((given_bad h f e).0)

  pub handed_wrote : (t : Handed) (r : VrkWritten) (w : Result ℕ Refusal) (new : List ℕ) → given_of h ≡ Ok t → r ≡ written_out w → wrote w new ≡ written out (outcome (m t out)) →
      wrote_of r new ≡ writes (handed_writing m h) out
  unfolding writes
  handed_wrote t r w new e k p = let g = given_good h t e in wrote_out r w new k ∙ p ∙ rw (g.0, g.1) refl

-- ---- texts: a form by its length
module _ (n : ℕ) (ds : List ℤ) (os : List ℕ) (l : ℤ) (h : VrkHanded) (out : List ℕ) where
  pub text_unformed : named_form n ≡ None → wrote_of (record { refusal = 3; length = 0 }) out ≡ writes (handed_writing (text_writing n ds os l) h) out
  unfolding writes
  text_unformed e = rw (missed (known_form n) (form_at n) e) (ap (written out) (either (known h) (refused 3)))

  pub text_wrote : (f : Form) (t : Handed) (r : VrkWritten) (w : Result ℕ Refusal) (new : List ℕ) → named_form n ≡ Some f → given_of h ≡ Ok t → r ≡ written_out w →
      wrote w new ≡ write_text t f ds os l out → wrote_of r new ≡ writes (handed_writing (text_writing n ds os l) h) out
  unfolding write_text
  text_wrote f t r w new e q k p =
      let g = found (known_form n) (form_at n) f e in
      handed_wrote (text_writing n ds os l) h out t r w new q k (p ∙ rw (g.0, g.1) refl)

-- ---- decimal days
module _ (x : Float) (c : ℕ) where
  pub read_known : (s : Scale) → named_by c ≡ Some s → time_out (read_of x s) ≡ decimal_read x c
  unfolding decimal_read read_of
  read_known s e = let k = named_good c s e in rw (k.0, k.1)

  pub read_unknown : named_by c ≡ None → time_out (slip (Err (refused_of S.Tai R.FieldOver))) ≡ decimal_read x c
  unfolding decimal_read
  read_unknown e = let k = named_bad c e in rw (k.0, k.1)

module _ (h : VrkHanded) where
  pub write_known : (t : Handed) (d : Result Float Refusal) → given_of h ≡ Ok t → WroteDay t d → DecimalWrote h (decimal_out (decimal_slip d))
  unfolding DecimalWrote
  write_known t d e w =
      let k = given_good h t e in
      rw k.0 (subst (λ (x : Handed). WroteDay x d) k.1 w)

  pub write_unknown : (f : Refusal) → given_of h ≡ Err f → DecimalWrote h (decimal_out (decimal_slip (Err f)))
  unfolding DecimalWrote
  write_unknown f e = let k = given_bad h f e in rw (k.0, k.1) (refl, refl)

-- ---- a correlation: the scale and the period that its code of a scale picks
module _ (c : VrkSbtCorrelation) (p : Scale × ℕ) where
  pub picked : (s : Scale) → named_by c.scale ≡ Some s → p ≡ (s, c.period) → p ≡ (scale_at c.scale, cond (known_scale c.scale) c.period 0)
  picked s e q = let k = named_good c.scale s e in rw (k.0, q, k.1)

  pub unpicked : named_by c.scale ≡ None → p ≡ (S.Tai, 0) → p ≡ (scale_at c.scale, cond (known_scale c.scale) c.period 0)
  unpicked e q = let k = named_bad c.scale e in rw (k.0, q, k.1)

-- ---- counters
module _ (h : VrkHanded) (ds : List ℤ) (os : List ℕ) (e : ℤ) where
  module _ (c : VrkSbtCorrelation) where
    pub tick_known : (t : Handed) → given_of h ≡ Ok t → count_out (tick_of (correlation_of c) t ds os e) ≡ sbt_tick h c ds os e
    unfolding sbt_tick tick_of
    tick_known t q = let k = given_good h t q in rw (k.0, k.1)

    pub tick_unknown : (f : Refusal) → given_of h ≡ Err f → count_out (count_slip (Err f)) ≡ sbt_tick h c ds os e
    unfolding sbt_tick
    tick_unknown f q = let k = given_bad h f q in rw (k.0, k.1)

  module _ (c : VrkGoceCorrelation) where
    pub count_known : (t : Handed) → given_of h ≡ Ok t → count_out (obt_of (goce_of c) t ds os e) ≡ goce_count h c ds os e
    unfolding goce_count obt_of
    count_known t q = let k = given_good h t q in rw (k.0, k.1)

    pub count_unknown : (f : Refusal) → given_of h ≡ Err f → count_out (count_slip (Err f)) ≡ goce_count h c ds os e
    unfolding goce_count
    count_unknown f q = let k = given_bad h f q in rw (k.0, k.1)

  -- ---- changes of scale
  pub change_unnamed : (c : ℕ) → named_by c ≡ None → time_out (slip (Err (refused_of S.Tai R.FieldOver))) ≡ changed h c ds os e
  unfolding changed
  change_unnamed c n = let k = named_bad c n in rw (k.0, k.1)

  module _ (c : ℕ) (s : Scale) (n : named_by c ≡ Some s) where
    pub change_known : (t : Handed) → given_of h ≡ Ok t → time_out (change_of t s ds os e) ≡ changed h c ds os e
    unfolding changed change_of
    change_known t q = let k = named_good c s n in let l = given_good h t q in rw (k.0, l.0, k.1, l.1)

    pub change_unknown : (f : Refusal) → given_of h ≡ Err f → time_out (slip (Err (refused_of s f))) ≡ changed h c ds os e
    unfolding changed
    change_unknown f q = let k = named_good c s n in let l = given_bad h f q in rw (k.0, l.0, k.1, l.1)
