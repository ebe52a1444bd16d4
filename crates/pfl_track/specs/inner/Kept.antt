-- States as they are kept.
use Rattle.pfl_track.specs.declared.state.StateFields.{StateFields}
use Rattle.pfl_track.specs.declared.state.Kept.{Kept}

-- what a state was made from
abbrev pub fields_of : Kept → StateFields
fields_of kept = record {
  name = kept.name;
  wire = kept.wire;
  stack = kept.stack;
  direction = kept.direction;
  src = kept.src;
  dst = kept.dst;
  class = kept.class;
  last = kept.last;
  rule = kept.rule;
  no_sync = kept.no_sync;
  ack_wanted = kept.ack_wanted;
  updates = kept.updates;
  peer_change = kept.peer_change;
}

-- how it is kept
abbrev pub kept_of : StateFields → Kept
kept_of fields = record {
  name = fields.name;
  wire = fields.wire;
  stack = fields.stack;
  direction = fields.direction;
  src = fields.src;
  dst = fields.dst;
  class = fields.class;
  last = fields.last;
  rule = fields.rule;
  no_sync = fields.no_sync;
  ack_wanted = fields.ack_wanted;
  updates = fields.updates;
  peer_change = fields.peer_change;
}
