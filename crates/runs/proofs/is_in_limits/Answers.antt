use Rattle.std.proofs.Common.{◌∙◌, arith}
use Rattle.runs.specs.Passes.{packet_at}
use Rattle.runs.specs.Packet.{packet_length, packet_ok}
use Rattle.runs.proofs.is_in_limits.Goals as goal

pub returns : goal.returns
returns c =
    let s = c.args.bytes.now in
    c.is_ok.ensures.value ∙ packet_ok (packet_at s c.args.i) (packet_length s c.args.i (omega arith)) c.packet.result c.packet.ensures
