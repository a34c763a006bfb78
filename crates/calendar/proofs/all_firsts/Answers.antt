use Rattle.std.proofs.Common.{rules, ◌≡◌, List, [], ◌∷◌, ℤ, refl, ap, ◌∙◌, Bool, ◌&&◌, tests}
use Rattle.std.specs.List.{list_all}
use Rattle.std.proofs.lemmas.Iterator.{YieldsList-from_slice}
use Rattle.std.proofs.lemmas.Iterator.Search.{all_from_yields_List}
use Rattle.calendar.specs.Meaning.{is_first, all_firsts}
use Rattle.calendar.proofs.all_firsts.Goals as goal

all_is : (s : List ℤ) → list_all is_first s ≡ all_firsts s
all_is [] = refl
all_is (d ∷ s) = ap (λ (b : Bool). is_first d && b) (all_is s)

pub returns : goal.returns
returns c =
    let s = c.args.days.now in
    all_from_yields_List is_first _ _ _ c.all.ensures.ran (YieldsList-from_slice s cc) (λ x b q k. search (rules, tests)) ∙ all_is s
