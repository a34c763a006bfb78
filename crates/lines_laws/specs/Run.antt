-- The line program over any blocks is its meaning over the whole input. Assumes nothing.
use Rattle.std.specs.Prelude.{◌≡◌, refl, Bool, true, false, List, [], ◌∷◌, ◌++◌, ℕ, ◌≤◌, leb, ℤ, length, take, drop}
use Rattle.std.proofs.Common.{sym, ap, ◌∙◌, append-nil, append_assoc, arith, length-append, take_all, length-take-le}
use borrow.Author.Tests.{ne_eqb, leb-true, leb-false}
use Rattle.leap.specs.Meaning.{published_days, published_offsets, published_last}
use Rattle.lines.specs.Meaning.{lines_of, refused_text, answer_to, answers, desk, whole_in, bytes_in, lines_dated}
use Rattle.lines_laws.specs.Lines.{whole_lines, whole_rest, answers_join, no_room, room_is, Begun, before, begun_lines, begun_front, begun_ends, before_one, before_first}

abbrev pub printed : List (List ℕ) → List ℕ
printed ls = answers published_days published_offsets published_last ls

-- ---- a block, whatever follows it: what was dated are whole lines, and what was written are their answers
pub block : (s t : List ℕ) (room : ℕ) → let ls = lines_dated published_days published_offsets published_last s room in desk (s ++ t) ≡ printed ls ++ desk (drop (bytes_in ls) s ++ t)
unfolding desk
block s t room =
    let ls = lines_dated published_days published_offsets published_last s room in
    ap printed (whole_lines ls s (no_room published_days published_offsets published_last room (whole_in s)) (room_is published_days published_offsets published_last room (whole_in s)) t)
    ∙ answers_join published_days published_offsets published_last ls (lines_of (drop (bytes_in ls) s ++ t))

-- ---- between two blocks: of a line that has begun 32 bytes are enough
module _ (ds : List ℤ) (os : List ℕ) (e : ℤ) where
  -- no form has as many
  pub long : (s : List ℕ) → 32 ≤ length s → answer_to ds os e s ≡ refused_text 1 ++ (10 ∷ [])
  unfolding answer_to
  long s h =
      rw (ne_eqb (length s) 24 (λ q. omega arith), ne_eqb (length s) 31 (λ q. omega arith), ne_eqb (length s) 20 (λ q. omega arith), ne_eqb (length s) 27 (λ q. omega arith))

pub kept_is : (s t : List ℕ) → Begun s → desk (s ++ t) ≡ desk (take 32 s ++ t)
unfolding desk answers
kept_is s t q = go (leb 32 (length s)) refl
  where
    same : (s k : List ℕ) (ls : List (List ℕ)) → 32 ≤ length s → 32 ≤ length k → printed (before s ls) ≡ printed (before k ls)
    same (b ∷ s) (c ∷ k) [] h j =
        rw (before_one b s, before_one c k) (ap (λ (x : List ℕ). x ++ []) (long published_days published_offsets published_last (b ∷ s) h ∙ sym (long published_days published_offsets published_last (c ∷ k) j)))
    same [] k [] h j = absurd (omega arith)
    same (b ∷ s) [] [] h j = absurd (omega arith)
    same s k (l ∷ ls) h j =
        rw (before_first s l ls, before_first k l ls)
        (ap (λ (x : List ℕ). x ++ printed ls)
        (long published_days published_offsets published_last (s ++ l) (omega (arith, length-append s l)) ∙ sym (long published_days published_offsets published_last (k ++ l) (omega (arith, length-append k l)))))

    go : (b : Bool) → leb 32 (length s) ≡ b → desk (s ++ t) ≡ desk (take 32 s ++ t)
    go true e =
        let h = leb-true 32 (length s) e in
        ap printed (begun_lines s t q)
        ∙ same s (take 32 s) (lines_of t) h (omega (arith, length-take-le 32 s h))
        ∙ sym (ap printed (begun_lines (take 32 s) t (begun_front 32 s q)))
    go false e = ap (λ (x : List ℕ). desk (x ++ t)) (sym (take_all 32 s (omega (arith, leb-false 32 (length s) e))))

-- ---- "a last line without a newline counts": it is dated as if one stood behind it
pub last : (b : ℕ) (s : List ℕ) → Begun (b ∷ s) → desk (b ∷ s) ≡ printed (whole_in (b ∷ s ++ (10 ∷ [])))
unfolding desk lines_of
last b s q =
    ap printed (ap lines_of (sym (append-nil (b ∷ s))) ∙ begun_lines (b ∷ s) [] q ∙ before_one b s ∙ sym (begun_ends (b ∷ s) q))

-- ---- the program: the bytes of a line that has begun are kept, and each read goes behind them
abbrev pub rest_of : List ℕ → List ℕ
rest_of s = drop (bytes_in (whole_in s)) s

abbrev pub ended : List ℕ → List ℕ
ended [] = []
ended (b ∷ s) = printed (whole_in (b ∷ s ++ (10 ∷ [])))

abbrev pub run : List ℕ → List (List ℕ) → List ℕ
run kept [] = ended kept
run kept (r ∷ rs) = printed (whole_in (kept ++ r)) ++ run (take 32 (rest_of (kept ++ r))) rs

abbrev pub joined : List (List ℕ) → List ℕ
joined [] = []
joined (r ∷ rs) = r ++ joined rs

at_end : (k : List ℕ) → Begun k → ended k ≡ desk k
unfolding desk lines_of answers
at_end [] q = refl
at_end (b ∷ k) q = sym (last b k q)

whole : (s t : List ℕ) → desk (s ++ t) ≡ printed (whole_in s) ++ desk (rest_of s ++ t)
unfolding desk
whole s t =
    ap printed (whole_lines (whole_in s) s [] (sym (append-nil (whole_in s))) t) ∙ answers_join published_days published_offsets published_last (whole_in s) (lines_of (rest_of s ++ t))

any : (k : List ℕ) (rs : List (List ℕ)) → Begun k → run k rs ≡ desk (k ++ joined rs)
any k [] q = at_end k q ∙ ap desk (sym (append-nil k))
any k (r ∷ rs) q =
    let s = k ++ r in
    let n = whole_rest (whole_in s) s refl in
    ap (λ (x : List ℕ). printed (whole_in s) ++ x) (any (take 32 (rest_of s)) rs (begun_front 32 (rest_of s) n) ∙ sym (kept_is (rest_of s) (joined rs) n))
    ∙ sym (whole s (joined rs))
    ∙ ap desk (append_assoc k r (joined rs))

-- however the input is cut into reads, the output is the same
pub any_blocks : (rs : List (List ℕ)) → run [] rs ≡ desk (joined rs)
unfolding whole_in
any_blocks rs = any [] rs refl
