use Rattle.std.proofs.Common.{rules}
use Rattle.text_write.specs.Image.{prefix_none, prefix_room, prefix_put}
use Rattle.text_write.proofs.image.put_prefix.Goals as goal

pub returns-then-not-shows_scale : goal.returns-then-not-shows_scale
returns-then-not-shows_scale c = prefix_none c.args.form c.args.z c.args.out.now (search rules)

pub slice_bounds-copy_from_slice-end : goal.slice_bounds-copy_from_slice-end
slice_bounds-copy_from_slice-end c = prefix_room c.args.form c.args.z c.args.out.now (search rules) c.requires

pub slice_bounds-copy_from_slice-end-2 : goal.slice_bounds-copy_from_slice-end-2
slice_bounds-copy_from_slice-end-2 c =
    let h = prefix_room c.args.form c.args.z c.args.out.now (search rules) c.requires in
    search rules

pub returns : goal.returns
returns c = prefix_put c.args.form c.args.z c.args.out.now (search rules) c.requires c.copy_from_slice.new.self (search rules)
