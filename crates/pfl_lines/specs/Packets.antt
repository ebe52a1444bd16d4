-- How packets are written (this project's profile).
use Rattle.std.specs.Prelude.{ℕ, List, [], ◌∷◌, Option, Some, None, Ok}
use Rattle.pfl_base.specs.declared.fields.PacketFields.{PacketFields}
use Rattle.pfl_base.specs.declared.proto.Proto.{Proto}
use Rattle.pfl_base.specs.declared.proto.Proto.TheVariants.{Tcp}
use Rattle.pfl_base.specs.Numbers.{greatest}
use Rattle.pfl_lines.specs.declared.draft.Segment.{Segment}
use Rattle.pfl_lines.specs.Readings.{◌>>=◌, Reading}
use Rattle.pfl_lines.specs.Parts.{number_at, end_at, proto_at, flags_at}

-- LEN, with nothing of TCP
unfoldable pub plain_at : List (List ℕ) → Reading Segment
plain_at ws = do
  len ← number_at 65535 ws
  Ok (record { flags = 0; seq = 0; ack = 0; window = 0; len = len.0; scale = None }, len.1)

-- a scale that the words end with
unfoldable pub last_scale : List (List ℕ) → Reading (Option ℕ)
last_scale ws = do
  scale ← number_at 255 ws
  Ok (Some scale.0, scale.1)

-- [SCALE]
abbrev pub scale_at : List (List ℕ) → Reading (Option ℕ)
scale_at [] = Ok (None, [])
scale_at (word ∷ ws) = last_scale (word ∷ ws)

-- FLAGS SEQ ACK WINDOW LEN [SCALE]
unfoldable pub tcp_at : List (List ℕ) → Reading Segment
tcp_at ws = do
  flags ← flags_at ws
  seq ← number_at greatest flags.1
  ack ← number_at greatest seq.1
  window ← number_at 65535 ack.1
  len ← number_at 65535 window.1
  scale ← scale_at len.1
  Ok (record { flags = flags.0; seq = seq.0; ack = ack.0; window = window.0; len = len.0; scale = scale.0 }, scale.1)

-- what the protocol has after the ends
abbrev pub segment_at : Proto → List (List ℕ) → Reading Segment
segment_at Tcp ws = tcp_at ws
segment_at _ ws = plain_at ws

-- PROTO SRC DST, and what the protocol has after them
unfoldable pub fields_at : List (List ℕ) → Reading PacketFields
fields_at ws = do
  proto ← proto_at ws
  src ← end_at proto.1
  dst ← end_at src.1
  segment ← segment_at proto.0 dst.1
  Ok (
    record {
      seq = segment.0.seq;
      ack = segment.0.ack;
      window = segment.0.window;
      len = segment.0.len;
      proto = proto.0;
      src = src.0;
      dst = dst.0;
      flags = segment.0.flags;
      scale = segment.0.scale;
    },
    segment.1,
  )
