-- The fields of packets that are written read back.
use Rattle.std.proofs.Common.{◌≡◌, ℕ, ◌^◌, ◌<◌, ◌≤◌, Bool, true, false, ◌&&◌, ◌||◌, List, [], ◌∷◌, length, refl, ◌∙◌, ap, sym, arith, eqb-true, leb-true}
use Rattle.std.specs.Prelude.{Ok, Option, Some, None, IfSome, is_some, nat_le, not, ◌==◌, codes, bytes_eq}
use Rattle.std.specs.List.{list_all}
use Rattle.std.specs.Option.{option_map_or}
use Rattle.std.specs.Fmt.{decimal}
use Rattle.std.proofs.lemmas.Bool.{not-false}
use Rattle.std.proofs.lemmas.Slice.Eq.{bytes_eq-Decides}
use Rattle.pfl_base.specs.declared.fields.PacketFields.{PacketFields}
use Rattle.pfl_base.specs.declared.proto.Proto.{Proto}
use Rattle.pfl_base.specs.declared.proto.Proto.TheVariants.{Tcp, Udp, Icmp, Other}
use Rattle.pfl_base.specs.Ends.{proto_number, IsProto, proto_of as numbered}
use Rattle.pfl_base.specs.Numbers.{greatest}
use Rattle.pfl_base.specs.Packets.{is_tcp, has_tcp_part}
use Rattle.pfl_base.specs.Texts.{proto_text}
use Rattle.pfl_base.specs.Words.{proto_at_word}
use Rattle.pfl_lines.specs.declared.draft.Segment.{Segment}
use Rattle.pfl_lines.specs.Laws.{IsTyped, is_plain}
use Rattle.pfl_lines.specs.Numbers.{is_digit}
use Rattle.pfl_lines.specs.Parts.{proto_of, numbered_proto, flags_at_word, letters_of}
use Rattle.pfl_lines.specs.Packets.{plain_at, last_scale, scale_at, tcp_at, segment_at, fields_at}
use Rattle.pfl_lines.specs.Written.{flags_text, scale_words, segment_words, fields_words}
use Rattle.pfl_lines.proofs.WrittenNumbers.{and-first, and-second, all_digits, number-reads, is_read, reads_by, holds_below}
use Rattle.pfl_lines.proofs.WrittenWords.{IsPlain, ArePlain}
use Rattle.pfl_lines.proofs.WrittenAddresses.{end-reads, end-plain, number-plain}

-- ---- flags

pub flags-read : (flags : ℕ) → flags < 64 → flags_at_word (flags_text flags) ≡ Ok flags
unfolding flags_text letters_of
flags-read flags h = reads_by (flags_at_word (flags_text flags)) flags (holds_below (λ k. is_read (flags_at_word (flags_text k)) k) 64 flags h refl)

pub plain-is : (most : ℕ) (word : List ℕ) → is_plain most word ≡ true → IsPlain most word
plain-is most word is =
    let long : (nat_le 1 (length word) && nat_le (length word) most) ≡ true = and-first _ _ is in
    record {
      some = leb-true 1 (length word) (and-first _ _ long);
      short = leb-true (length word) most (and-second (nat_le 1 (length word)) _ long);
      marks = and-second (nat_le 1 (length word) && nat_le (length word) most) _ is;
    }

flags-plain : (flags : ℕ) → flags < 64 → IsPlain 6 (flags_text flags)
unfolding flags_text
flags-plain flags h = plain-is 6 (flags_text flags) (holds_below (λ k. is_plain 6 (flags_text k)) 64 flags h refl)

-- ---- protocols

apart : (xs w : List ℕ) → list_all is_digit w ≡ true → list_all is_digit xs ≡ false → bytes_eq xs w ≡ false
apart xs w digits other =
    elim (bytes_eq xs w) as (λ t. bytes_eq xs w ≡ t → t ≡ false) [
      | true ↦ λ same. let e : list_all is_digit xs ≡ true = ap (list_all is_digit) ((bytes_eq-Decides xs w).0 same) ∙ digits in cc
      | false ↦ λ _. refl
    ] refl

no_word : (w : List ℕ) → list_all is_digit w ≡ true → proto_at_word w ≡ None
no_word w digits = rw (apart (codes "tcp") w digits refl, apart (codes "udp") w digits refl, apart (codes "icmp") w digits refl) refl

numbered_reads : (n : ℕ) → numbered n ≡ Other n → n < 2 ^ 8 → numbered_proto (decimal n) ≡ Ok (Other n)
unfolding numbered_proto
numbered_reads n is small = rw (number-reads 255 n (omega arith) (omega arith), is) refl

proto-reads : (proto : Proto) → IsProto proto → proto_number proto < 2 ^ 8 → proto_of (proto_text proto) ≡ Ok proto
proto-reads Tcp is small = refl
proto-reads Udp is small = refl
proto-reads Icmp is small = refl
proto-reads (Other n) is small =
    ap (λ (o : Option Proto). option_map_or (λ p. Ok p) o (numbered_proto (decimal n))) (no_word (decimal n) (all_digits n (omega arith)))
    ∙ numbered_reads n is small

proto-plain : (proto : Proto) → proto_number proto < 2 ^ 8 → IsPlain 4 (proto_text proto)
proto-plain Tcp small = plain-is 4 (codes "tcp") refl
proto-plain Udp small = plain-is 4 (codes "udp") refl
proto-plain Icmp small = plain-is 4 (codes "icmp") refl
proto-plain (Other n) small = number-plain 4 n (omega arith) (omega arith) (omega arith)

-- ---- what follows the ends

scale-reads : (scale : Option ℕ) → IfSome scale (λ s. s ≤ 14) → scale_at (scale_words scale) ≡ Ok (scale, [])
unfolding last_scale
scale-reads None small = refl
scale-reads (Some s) small = rw (number-reads 255 s (omega arith) (omega arith)) refl

-- what the fields have after the ends
abbrev segment : PacketFields → Segment
segment p = record { flags = p.flags; seq = p.seq; ack = p.ack; window = p.window; len = p.len; scale = p.scale }

tcp-reads : (p : PacketFields) → IsTyped p → tcp_at (segment_words Tcp p) ≡ Ok (segment p, [])
unfolding tcp_at
tcp-reads p is =
    let len : p.len ≤ 65535 = let h : p.len ≤ 65495 = is.packet.len in omega arith in
    let seq : p.seq ≤ greatest = is.seq in
    let ack : p.ack ≤ greatest = is.ack in
    let window : p.window < 2 ^ 16 = is.window in
    rw (
      flags-read p.flags is.flags,
      number-reads greatest p.seq seq (omega arith),
      number-reads greatest p.ack ack (omega arith),
      number-reads 65535 p.window (omega arith) (omega arith),
      number-reads 65535 p.len len (omega arith),
      scale-reads p.scale is.packet.scale,
    ) refl

neither : (b c : Bool) → (b || c) ≡ false → c ≡ false
neither true c e = cc
neither false c e = e

neither-first : (b c : Bool) → (b || c) ≡ false → b ≡ false
neither-first true c e = cc
neither-first false c e = refl

is_zero : (n : ℕ) → not (n == 0) ≡ false → n ≡ 0
is_zero n e = eqb-true n 0 (not-false (n == 0) e)

no_scale : (scale : Option ℕ) → is_some scale ≡ false → scale ≡ None
no_scale None e = refl
no_scale (Some s) e = cc

-- a packet of another protocol has nothing of TCP
bare : (p : PacketFields) → has_tcp_part p ≡ false → segment p ≡ record { flags = 0; seq = 0; ack = 0; window = 0; len = p.len; scale = None }
bare p e =
    let e4 : (not (p.flags == 0) || not (p.seq == 0) || not (p.ack == 0) || not (p.window == 0)) ≡ false = neither-first _ _ e in
    let e3 : (not (p.flags == 0) || not (p.seq == 0) || not (p.ack == 0)) ≡ false = neither-first _ _ e4 in
    let e2 : (not (p.flags == 0) || not (p.seq == 0)) ≡ false = neither-first _ _ e3 in
    let flags : p.flags ≡ 0 = is_zero p.flags (neither-first _ _ e2) in
    let seq : p.seq ≡ 0 = is_zero p.seq (neither (not (p.flags == 0)) _ e2) in
    let ack : p.ack ≡ 0 = is_zero p.ack (neither (not (p.flags == 0) || not (p.seq == 0)) _ e3) in
    let window : p.window ≡ 0 = is_zero p.window (neither (not (p.flags == 0) || not (p.seq == 0) || not (p.ack == 0)) _ e4) in
    let scale : p.scale ≡ None = no_scale p.scale (neither (not (p.flags == 0) || not (p.seq == 0) || not (p.ack == 0) || not (p.window == 0)) _ e) in
    rw (flags, seq, ack, window, scale) refl

plain-reads : (p : PacketFields) → p.len ≤ 65535 → has_tcp_part p ≡ false → plain_at (decimal p.len ∷ []) ≡ Ok (segment p, [])
unfolding plain_at
plain-reads p small none = rw (number-reads 65535 p.len small (omega arith)) (ap (λ (s : Segment). Ok (s, [])) (sym (bare p none)))

segment-reads : (proto : Proto) (p : PacketFields) → IsTyped p → p.proto ≡ proto → segment_at proto (segment_words proto p) ≡ Ok (segment p, [])
segment-reads Tcp p is same = tcp-reads p is
segment-reads Udp p is same = let h : p.len ≤ 65495 = is.packet.len in plain-reads p (omega arith) (is.packet.tcp_alone (ap is_tcp same))
segment-reads Icmp p is same = let h : p.len ≤ 65495 = is.packet.len in plain-reads p (omega arith) (is.packet.tcp_alone (ap is_tcp same))
segment-reads (Other n) p is same = let h : p.len ≤ 65495 = is.packet.len in plain-reads p (omega arith) (is.packet.tcp_alone (ap is_tcp same))

pub fields-read : (p : PacketFields) → IsTyped p → fields_at (fields_words p) ≡ Ok (p, [])
unfolding fields_at
fields-read p is =
    rw (proto-reads p.proto is.packet.proto is.proto, end-reads p.src is.src, end-reads p.dst is.dst, segment-reads p.proto p is refl) refl

-- ---- the words of a packet

abbrev scale_bounds : Option ℕ → List ℕ
scale_bounds None = []
scale_bounds (Some s) = 2 ∷ []

abbrev pub segment_bounds : Proto → Option ℕ → List ℕ
segment_bounds Tcp scale = 6 ∷ 10 ∷ 10 ∷ 5 ∷ 5 ∷ scale_bounds scale
segment_bounds _ scale = 5 ∷ []

abbrev pub fields_bounds : PacketFields → List ℕ
fields_bounds p = 4 ∷ 47 ∷ 47 ∷ segment_bounds p.proto p.scale

scale-plain : (scale : Option ℕ) → IfSome scale (λ s. s ≤ 14) → ArePlain (scale_bounds scale) (scale_words scale)
scale-plain None small = tt
scale-plain (Some s) small = (number-plain 2 s (omega arith) (omega arith) (omega arith), tt)

segment-plain : (proto : Proto) (p : PacketFields) → IsTyped p → ArePlain (segment_bounds proto p.scale) (segment_words proto p)
segment-plain Tcp p is =
    let len : p.len ≤ 65495 = is.packet.len in
    let seq : p.seq ≤ greatest = is.seq in
    let ack : p.ack ≤ greatest = is.ack in
    let window : p.window < 2 ^ 16 = is.window in (
      flags-plain p.flags is.flags,
      (
        number-plain 10 p.seq (omega arith) (omega arith) (omega arith),
        (
          number-plain 10 p.ack (omega arith) (omega arith) (omega arith),
          (
            number-plain 5 p.window (omega arith) (omega arith) (omega arith),
            (number-plain 5 p.len (omega arith) (omega arith) (omega arith), scale-plain p.scale is.packet.scale),
          ),
        ),
      ),
    )
segment-plain Udp p is = let len : p.len ≤ 65495 = is.packet.len in (number-plain 5 p.len (omega arith) (omega arith) (omega arith), tt)
segment-plain Icmp p is = let len : p.len ≤ 65495 = is.packet.len in (number-plain 5 p.len (omega arith) (omega arith) (omega arith), tt)
segment-plain (Other n) p is = let len : p.len ≤ 65495 = is.packet.len in (number-plain 5 p.len (omega arith) (omega arith) (omega arith), tt)

pub fields-plain : (p : PacketFields) → IsTyped p → ArePlain (fields_bounds p) (fields_words p)
fields-plain p is = (proto-plain p.proto is.proto, (end-plain p.src is.src, (end-plain p.dst is.dst, segment-plain p.proto p is)))
