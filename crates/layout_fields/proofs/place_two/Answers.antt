use Rattle.std.proofs.Common.{rules, ◌≡◌, ◌++◌, ◌+◌, length, length-append}
use Rattle.octets.specs.Meaning.{field}
use Rattle.octets.specs.Field.{length_field}
use Rattle.layout_fields.proofs.place_two.Goals as goal

pub returns-then-out-end : goal.returns-then-out-end
returns-then-out-end c =
    let a = c.args in
    let l : length (field a.n a.x ++ field a.m a.y) ≡ a.n + a.m = simp (length-append, length_field) in
    search rules
