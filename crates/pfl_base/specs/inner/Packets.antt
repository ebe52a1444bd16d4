-- Packets as they are kept.
use Rattle.pfl_base.specs.declared.fields.PacketFields.{PacketFields}
use Rattle.pfl_base.specs.declared.packet.Kept.{Kept}

-- what a packet was made from
abbrev pub fields_of : Kept → PacketFields
fields_of kept = record {
  seq = kept.seq;
  ack = kept.ack;
  window = kept.window;
  len = kept.len;
  proto = kept.proto;
  src = kept.src;
  dst = kept.dst;
  flags = kept.flags;
  scale = kept.scale;
}

-- how it is kept
abbrev pub kept_of : PacketFields → Kept
kept_of fields = record {
  seq = fields.seq;
  ack = fields.ack;
  window = fields.window;
  len = fields.len;
  proto = fields.proto;
  src = fields.src;
  dst = fields.dst;
  flags = fields.flags;
  scale = fields.scale;
}
