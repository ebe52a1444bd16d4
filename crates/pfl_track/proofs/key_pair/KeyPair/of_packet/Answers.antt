-- The keys of a packet pass the test where the translation is to its family.
use Rattle.pfl_track.proofs.Families.{packet-pair}
use Rattle.pfl_track.proofs.key_pair.KeyPair.of_packet.Goals as goal

pub returns : goal.returns
returns c = packet-pair c.args.packet.now c.args.dir c.args.nat c.key-stack.result c.wire_key-wire.result c.of.result
    c.key-stack.ensures.packet.family c.key-stack.ensures.key c.wire_key-wire.ensures c.of.ensures
