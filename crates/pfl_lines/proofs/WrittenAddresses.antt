-- Addresses and ends that are written read back.
use Rattle.std.proofs.Common.{◌≡◌, ℕ, ◌+◌, ◌*◌, ◌/◌, ◌%◌, ◌^◌, ◌<◌, ◌≤◌, Bool, true, false, List, [], ◌∷◌, ◌++◌, length, refl, ◌∙◌, ap, sym, subst}
use Rattle.std.proofs.Common.{arith, append_assoc, length-append, div-add-mod', ne_eqb, le-leb, leb-true}
use Rattle.std.specs.Prelude.{Result, Ok, nat_le, not, ◌==◌, codes, if◌then◌else◌}
use Rattle.std.specs.List.{list_all}
use Rattle.std.specs.Fmt.{decimal}
use Rattle.std.proofs.lemmas.Fmt.{decimal_nonempty, length-decimal-le}
use Rattle.std.proofs.Math.Nat.{div-div-eq-div-mul}
use Rattle.std.proofs.lemmas.List.Folds.{list_all-append}
use Rattle.pfl_base.specs.declared.addr.Addr.{Addr}
use Rattle.pfl_base.specs.declared.addr.Addr.TheVariants.{V4, V6}
use Rattle.pfl_base.specs.declared.addr.End.{End}
use Rattle.pfl_base.specs.Texts.{address_text, host_text, end_text, hex_digit as digit_text, group_text, groups_text}
use Rattle.pfl_lines.specs.declared.fault.LineFault.{LineFault}
use Rattle.pfl_lines.specs.Addresses.{v4_of, hex_digit, hex_at, group_at, pair_at, quad_at, v6_at, v4_end, v6_end, end_of}
use Rattle.pfl_lines.specs.Numbers.{is_digit, number_of, cut_at}
use Rattle.pfl_lines.specs.Readings.{◌>>=◌}
use Rattle.pfl_lines.specs.Laws.{IsAddr, IsEnd, is_mark}
use Rattle.pfl_lines.proofs.WrittenNumbers.{is_read, reads_by, holds_below, and-first, and-second, and-both, all_weaker, all_digits, number-reads}
use Rattle.pfl_lines.proofs.WrittenNumbers.{lacks, cut-reads, number_lacks, digit_is_above}
use Rattle.pfl_lines.proofs.WrittenWords.{IsPlain}

not-true : (b : Bool) → not b ≡ true → b ≡ false
not-true true e = cc
not-true false e = refl

-- ---- IPv4

-- the four bytes of a number
whole : (n : ℕ) → (((n / 2 ^ 24) * 256 + n / 2 ^ 16 % 2 ^ 8) * 256 + n / 2 ^ 8 % 2 ^ 8) * 256 + n % 2 ^ 8 ≡ n
whole n =
    let a : n / 2 ^ 16 / 2 ^ 8 ≡ n / 2 ^ 24 = div-div-eq-div-mul n (2 ^ 16) (2 ^ 8) in
    let b : n / 2 ^ 8 / 2 ^ 8 ≡ n / 2 ^ 16 = div-div-eq-div-mul n (2 ^ 8) (2 ^ 8) in
    omega (arith, div-add-mod' n 256, div-add-mod' (n / 2 ^ 8) 256, div-add-mod' (n / 2 ^ 16) 256)

small_byte : (n : ℕ) → n % 2 ^ 8 ≤ 255
small_byte n = omega arith

high_byte : (n : ℕ) → n < 2 ^ 32 → n / 2 ^ 24 ≤ 255
high_byte n h = omega arith

-- four numbers joined by dots
abbrev two : ℕ → ℕ → List ℕ
two c d = decimal c ++ 46 ∷ decimal d

abbrev three : ℕ → ℕ → ℕ → List ℕ
three b c d = decimal b ++ 46 ∷ two c d

abbrev dotted : ℕ → ℕ → ℕ → ℕ → List ℕ
dotted a b c d = decimal a ++ 46 ∷ three b c d

dotted-reads : (a b c d : ℕ) → a ≤ 255 → b ≤ 255 → c ≤ 255 → d ≤ 255 → v4_of (dotted a b c d) ≡ Ok (((a * 256 + b) * 256 + c) * 256 + d)
unfolding v4_of
dotted-reads a b c d ha hb hc hd =
    let e1 : cut_at 46 (dotted a b c d) ≡ Ok (decimal a, three b c d) =
    cut-reads 46 (decimal a) (three b c d) (number_lacks 46 a (omega arith) (omega arith)) in
    let e2 : cut_at 46 (three b c d) ≡ Ok (decimal b, two c d) = cut-reads 46 (decimal b) (two c d) (number_lacks 46 b (omega arith) (omega arith)) in
    let e3 : cut_at 46 (two c d) ≡ Ok (decimal c, decimal d) = cut-reads 46 (decimal c) (decimal d) (number_lacks 46 c (omega arith) (omega arith)) in
    let n1 : number_of 255 (decimal a) ≡ Ok a = number-reads 255 a ha (omega arith) in
    let n2 : number_of 255 (decimal b) ≡ Ok b = number-reads 255 b hb (omega arith) in
    let n3 : number_of 255 (decimal c) ≡ Ok c = number-reads 255 c hc (omega arith) in
    let n4 : number_of 255 (decimal d) ≡ Ok d = number-reads 255 d hd (omega arith) in
    rw (e1, e2, e3, n1, n2, n3, n4) refl

abbrev dots : ℕ → List ℕ
dots n = dotted (n / 2 ^ 24) (n / 2 ^ 16 % 2 ^ 8) (n / 2 ^ 8 % 2 ^ 8) (n % 2 ^ 8)

dots_are : (n : ℕ) → address_text (V4 n) ≡ dots n
dots_are n = simp append_assoc

pub v4-reads : (n : ℕ) → n < 2 ^ 32 → v4_of (address_text (V4 n)) ≡ Ok n
v4-reads n h =
    ap v4_of (dots_are n)
    ∙ dotted-reads (n / 2 ^ 24) (n / 2 ^ 16 % 2 ^ 8) (n / 2 ^ 8 % 2 ^ 8) (n % 2 ^ 8) (high_byte n h) (small_byte (n / 2 ^ 16))
    (small_byte (n / 2 ^ 8)) (small_byte n)
    ∙ ap (λ v. Ok v) (whole n)

-- what holds of digits and of a dot holds of each byte
all_dotted : (p : ℕ → Bool) (a b c d : ℕ) → ((x : ℕ) → is_digit x ≡ true → p x ≡ true) → p 46 ≡ true → a ≤ 255 → b ≤ 255 → c ≤ 255
    → d ≤ 255 → list_all p (dotted a b c d) ≡ true
all_dotted p a b c d digit dot ha hb hc hd =
    let la : list_all p (decimal a) ≡ true = all_weaker is_digit p digit (decimal a) (all_digits a (omega arith)) in
    let lb : list_all p (decimal b) ≡ true = all_weaker is_digit p digit (decimal b) (all_digits b (omega arith)) in
    let lc : list_all p (decimal c) ≡ true = all_weaker is_digit p digit (decimal c) (all_digits c (omega arith)) in
    let ld : list_all p (decimal d) ≡ true = all_weaker is_digit p digit (decimal d) (all_digits d (omega arith)) in
    let two_hold : list_all p (two c d) ≡ true = list_all-append p (decimal c) (46 ∷ decimal d) ∙ and-both _ _ lc (and-both _ _ dot ld) in
    let three_hold : list_all p (three b c d) ≡ true = list_all-append p (decimal b) (46 ∷ two c d) ∙ and-both _ _ lb (and-both _ _ dot two_hold) in
    list_all-append p (decimal a) (46 ∷ three b c d) ∙ and-both _ _ la (and-both _ _ dot three_hold)

all_dots : (p : ℕ → Bool) (n : ℕ) → ((x : ℕ) → is_digit x ≡ true → p x ≡ true) → p 46 ≡ true → n < 2 ^ 32 → list_all p (address_text (V4 n)) ≡ true
all_dots p n digit dot h =
    ap (list_all p) (dots_are n)
    ∙ all_dotted p (n / 2 ^ 24) (n / 2 ^ 16 % 2 ^ 8) (n / 2 ^ 8 % 2 ^ 8) (n % 2 ^ 8) digit dot (high_byte n h) (small_byte (n / 2 ^ 16))
    (small_byte (n / 2 ^ 8)) (small_byte n)

-- a number or a dot is neither a colon nor a bracket
lacks_dots : (s n : ℕ) → 57 < s → n < 2 ^ 32 → lacks s (address_text (V4 n)) ≡ true
lacks_dots s n high h = all_dots (λ b. not (b == s)) n (λ x. digit_is_above s x high) (ap not (ne_eqb 46 s (λ e. absurd (omega arith)))) h

v4_end-reads : (n port : ℕ) → n < 2 ^ 32 → port ≤ 65535 → v4_end (address_text (V4 n) ++ 58 ∷ decimal port) ≡ Ok (record { addr = V4 n; port = port })
unfolding v4_end
v4_end-reads n port h small =
    let e : cut_at 58 (address_text (V4 n) ++ 58 ∷ decimal port) ≡ Ok (address_text (V4 n), decimal port) =
    cut-reads 58 (address_text (V4 n)) (decimal port) (lacks_dots 58 n (omega arith) h) in
    let a : v4_of (address_text (V4 n)) ≡ Ok n = v4-reads n h in
    let p : number_of 65535 (decimal port) ≡ Ok port = number-reads 65535 port small (omega arith) in
    rw (e, a, p) refl

-- an end that does not begin with a bracket is one of IPv4
v4_first : (word rest : List ℕ) → 0 < length word → lacks 91 word ≡ true → end_of (word ++ rest) ≡ v4_end (word ++ rest)
unfolding end_of
v4_first [] rest some none = absurd (omega arith)
v4_first (b ∷ word) rest some none =
    let other : (b == 91) ≡ false = not-true (b == 91) (and-first _ _ none) in
    ap (λ t. if t then v6_end (word ++ rest) else v4_end (b ∷ word ++ rest)) other

-- ---- IPv6

-- a hexadecimal digit reads as itself
digit_reads : (d : ℕ) → d < 16 → hex_digit (digit_text d) ≡ Ok d
digit_reads d h = reads_by (hex_digit (digit_text d)) d (holds_below (λ k. is_read (hex_digit (digit_text k)) k) 16 d h refl)

hex-reads : (d : ℕ) (rest : List ℕ) → d < 16 → hex_at (digit_text d ∷ rest) ≡ Ok (d, rest)
unfolding hex_at
hex-reads d rest h = ap (λ (r : Result ℕ LineFault). r >>= (λ n. Ok (n, rest))) (digit_reads d h)

-- four digits in a row
digits-read : (a b c d : ℕ) (rest : List ℕ) → a < 16 → b < 16 → c < 16 → d < 16
    → group_at (digit_text a ∷ digit_text b ∷ digit_text c ∷ digit_text d ∷ rest) ≡ Ok (((a * 16 + b) * 16 + c) * 16 + d, rest)
unfolding group_at
digits-read a b c d rest ha hb hc hd =
    rw (
      hex-reads a (digit_text b ∷ digit_text c ∷ digit_text d ∷ rest) ha,
      hex-reads b
          (digit_text c ∷ digit_text d ∷ rest) hb,
      hex-reads c (digit_text d ∷ rest) hc,
      hex-reads d rest hd,
    ) refl

digits_whole : (n : ℕ) → (((n / 2 ^ 8 / 16) * 16 + n / 2 ^ 8 % 16) * 16 + n % 2 ^ 8 / 16) * 16 + n % 2 ^ 8 % 16 ≡ n
digits_whole n = omega (arith, div-add-mod' n 256, div-add-mod' (n / 256) 16, div-add-mod' (n % 256) 16)

group-reads : (n : ℕ) (rest : List ℕ) → n < 2 ^ 16 → group_at (group_text n ++ rest) ≡ Ok (n, rest)
group-reads n rest h =
    digits-read (n / 2 ^ 8 / 16) (n / 2 ^ 8 % 16) (n % 2 ^ 8 / 16) (n % 2 ^ 8 % 16) rest (omega arith) (omega arith) (omega arith) (omega arith)
    ∙ ap (λ v. Ok (v, rest)) (digits_whole n)

pair-reads : (a b : ℕ) (rest : List ℕ) → a < 2 ^ 16 → b < 2 ^ 16 → pair_at (group_text a ++ 58 ∷ (group_text b ++ rest)) ≡ Ok (a * 65536 + b, rest)
unfolding pair_at
pair-reads a b rest ha hb = rw (group-reads a (58 ∷ (group_text b ++ rest)) ha, group-reads b rest hb) refl

quad_whole : (n : ℕ) → (n / 2 ^ 48 * 65536 + n / 2 ^ 32 % 2 ^ 16) * 4294967296 + (n / 2 ^ 16 % 2 ^ 16 * 65536 + n % 2 ^ 16) ≡ n
quad_whole n =
    let a : n / 2 ^ 16 / 2 ^ 16 ≡ n / 2 ^ 32 = div-div-eq-div-mul n (2 ^ 16) (2 ^ 16) in
    let b : n / 2 ^ 32 / 2 ^ 16 ≡ n / 2 ^ 48 = div-div-eq-div-mul n (2 ^ 32) (2 ^ 16) in
    omega (arith, div-add-mod' n 65536, div-add-mod' (n / 2 ^ 16) 65536, div-add-mod' (n / 2 ^ 32) 65536)

quad_reads_parts : (a b c d : ℕ) (rest : List ℕ) → a < 2 ^ 16 → b < 2 ^ 16 → c < 2 ^ 16 → d < 2 ^ 16
    → quad_at (group_text a ++ 58 ∷ (group_text b ++ 58 ∷ (group_text c ++ 58 ∷ (group_text d ++ rest))))
    ≡ Ok ((a * 65536 + b) * 4294967296 + (c * 65536 + d), rest)
unfolding quad_at
quad_reads_parts a b c d rest ha hb hc hd =
    rw (pair-reads a b (58 ∷ (group_text c ++ 58 ∷ (group_text d ++ rest))) ha hb, pair-reads c d rest hc hd) refl

quad-reads : (n : ℕ) (rest : List ℕ) → n < 2 ^ 64 → quad_at (groups_text n ++ rest) ≡ Ok (n, rest)
quad-reads n rest h =
    quad_reads_parts (n / 2 ^ 48) (n / 2 ^ 32 % 2 ^ 16) (n / 2 ^ 16 % 2 ^ 16) (n % 2 ^ 16) rest (omega arith) (omega arith) (omega arith) (omega arith)
    ∙ ap (λ v. Ok (v, rest)) (quad_whole n)

v6_parts : (a b : ℕ) (rest : List ℕ) → a < 2 ^ 64 → b < 2 ^ 64 → v6_at (groups_text a ++ 58 ∷ (groups_text b ++ rest)) ≡ Ok (a * 18446744073709551616 + b, rest)
unfolding v6_at
v6_parts a b rest ha hb = rw (quad-reads a (58 ∷ (groups_text b ++ rest)) ha, quad-reads b rest hb) refl

v6-reads : (n : ℕ) (rest : List ℕ) → n < 2 ^ 128 → v6_at (address_text (V6 n) ++ rest) ≡ Ok (n, rest)
v6-reads n rest h = v6_parts (n / 2 ^ 64) (n % 2 ^ 64) rest (omega arith) (omega arith) ∙ ap (λ v. Ok (v, rest)) (div-add-mod' n (2 ^ 64))

v6_end-reads : (n port : ℕ) → n < 2 ^ 128 → port ≤ 65535 → v6_end (address_text (V6 n) ++ 93 ∷ 58 ∷ decimal port) ≡ Ok (record { addr = V6 n; port = port })
unfolding v6_end
v6_end-reads n port h small = rw (v6-reads n (93 ∷ 58 ∷ decimal port) h, number-reads 65535 port small (omega arith)) refl

-- ---- ends

some_digits : (n : ℕ) → n < 2 ^ 32 → 0 < length (address_text (V4 n))
some_digits n h =
    let a : ℕ = n / 2 ^ 24 in
    let rest : List ℕ = three (n / 2 ^ 16 % 2 ^ 8) (n / 2 ^ 8 % 2 ^ 8) (n % 2 ^ 8) in
    let e : length (address_text (V4 n)) ≡ length (decimal a ++ 46 ∷ rest) = ap length (dots_are n) in
    let some : 0 < length (decimal a) = decimal_nonempty a (omega (arith, high_byte n h)) in
    omega (arith, length-append (decimal a) (46 ∷ rest))

end_reads_at : (addr : Addr) (port : ℕ) → IsAddr addr → port ≤ 65535
    → end_of (host_text addr ++ codes ":" ++ decimal port) ≡ Ok (record { addr = addr; port = port })
unfolding end_of
end_reads_at (V4 n) port h small =
    ap end_of (append_assoc (address_text (V4 n)) (codes ":") (decimal port))
    ∙ v4_first (address_text (V4 n)) (58 ∷ decimal port) (some_digits n h) (lacks_dots 91 n (omega arith) h)
    ∙ v4_end-reads n port h small
end_reads_at (V6 n) port h small = v6_end-reads n port h small

pub end-reads : (e : End) → IsEnd e → end_of (end_text e) ≡ Ok e
end-reads e is = let port : e.port < 2 ^ 16 = is.port in end_reads_at e.addr e.port is.addr (omega arith)

-- ---- ends are words

digit_marks : (b : ℕ) → is_digit b ≡ true → is_mark b ≡ true
digit_marks b is =
    let low : 48 ≤ b = leb-true 48 b (and-first _ _ is) in
    let high : b ≤ 57 = leb-true b 57 (and-second (nat_le 48 b) _ is) in
    and-both (nat_le 33 b) (nat_le b 126) (le-leb 33 b (omega arith)) (le-leb b 126 (omega arith))

pub number-plain : (k n : ℕ) → 0 < k → n < 10 ^ k → n < 2 ^ 64 → IsPlain k (decimal n)
number-plain k n some small fits = record {
  some = decimal_nonempty n fits;
  short = length-decimal-le k n some small fits;
  marks = all_weaker is_digit is_mark digit_marks (decimal n) (all_digits n fits);
}

port_marks : (port : ℕ) → port ≤ 65535 → list_all is_mark (58 ∷ decimal port) ≡ true
port_marks port small = all_weaker is_digit is_mark digit_marks (decimal port) (all_digits port (omega arith))

port_short : (port : ℕ) → port ≤ 65535 → length (decimal port) ≤ 5
port_short port small = length-decimal-le 5 port (omega arith) (omega arith) (omega arith)

dots_short : (a b c d : ℕ) → a ≤ 255 → b ≤ 255 → c ≤ 255 → d ≤ 255 → length (dotted a b c d) ≤ 15
dots_short a b c d ha hb hc hd =
    let la : length (decimal a) ≤ 3 = length-decimal-le 3 a (omega arith) (omega arith) (omega arith) in
    let lb : length (decimal b) ≤ 3 = length-decimal-le 3 b (omega arith) (omega arith) (omega arith) in
    let lc : length (decimal c) ≤ 3 = length-decimal-le 3 c (omega arith) (omega arith) (omega arith) in
    let ld : length (decimal d) ≤ 3 = length-decimal-le 3 d (omega arith) (omega arith) (omega arith) in
    omega (arith, length-append (decimal a) (46 ∷ three b c d), length-append (decimal b) (46 ∷ two c d), length-append (decimal c) (46 ∷ decimal d))

v4_short : (n : ℕ) → n < 2 ^ 32 → length (address_text (V4 n)) ≤ 15
v4_short n h =
    subst (λ (t : List ℕ). length t ≤ 15) (sym (dots_are n))
    (dots_short (n / 2 ^ 24) (n / 2 ^ 16 % 2 ^ 8) (n / 2 ^ 8 % 2 ^ 8) (n % 2 ^ 8) (high_byte n h) (small_byte (n / 2 ^ 16))
    (small_byte (n / 2 ^ 8)) (small_byte n))

hex_marks : (d : ℕ) → d < 16 → is_mark (digit_text d) ≡ true
hex_marks d h = holds_below (λ k. is_mark (digit_text k)) 16 d h refl

group_marks : (n : ℕ) (rest : List ℕ) → n < 2 ^ 16 → list_all is_mark rest ≡ true → list_all is_mark (group_text n ++ rest) ≡ true
group_marks n rest h marks =
    and-both _ _ (hex_marks (n / 2 ^ 8 / 16) (omega arith))
    (and-both _ _ (hex_marks (n / 2 ^ 8 % 16) (omega arith))
    (and-both _ _ (hex_marks (n % 2 ^ 8 / 16) (omega arith))
    (and-both _ _ (hex_marks (n % 2 ^ 8 % 16) (omega arith)) marks)))

groups_mark : (n : ℕ) (rest : List ℕ) → n < 2 ^ 64 → list_all is_mark rest ≡ true → list_all is_mark (groups_text n ++ rest) ≡ true
groups_mark n rest h marks =
    let d : List ℕ = group_text (n % 2 ^ 16) ++ rest in
    let c : List ℕ = group_text (n / 2 ^ 16 % 2 ^ 16) ++ 58 ∷ d in
    let b : List ℕ = group_text (n / 2 ^ 32 % 2 ^ 16) ++ 58 ∷ c in
    group_marks (n / 2 ^ 48) (58 ∷ b) (omega arith)
    (group_marks (n / 2 ^ 32 % 2 ^ 16) (58 ∷ c) (omega arith)
    (group_marks (n / 2 ^ 16 % 2 ^ 16) (58 ∷ d) (omega arith)
    (group_marks (n % 2 ^ 16) rest (omega arith) marks)))

v6_marks : (n : ℕ) (rest : List ℕ) → n < 2 ^ 128 → list_all is_mark rest ≡ true → list_all is_mark (address_text (V6 n) ++ rest) ≡ true
v6_marks n rest h marks =
    groups_mark (n / 2 ^ 64) (58 ∷ (groups_text (n % 2 ^ 64) ++ rest)) (omega arith) (groups_mark (n % 2 ^ 64) rest (omega arith) marks)

end_plain_at : (addr : Addr) (port : ℕ) → IsAddr addr → port ≤ 65535 → IsPlain 47 (host_text addr ++ codes ":" ++ decimal port)
end_plain_at (V4 n) port h small =
    let few : length (address_text (V4 n)) ≤ 15 = v4_short n h in
    let digits : length (decimal port) ≤ 5 = port_short port small in
    subst (IsPlain 47) (sym (append_assoc (address_text (V4 n)) (codes ":") (decimal port))) (record {
      some = omega (arith, some_digits n h, length-append (address_text (V4 n)) (58 ∷ decimal port));
      short = omega (arith, length-append (address_text (V4 n)) (58 ∷ decimal port));
      marks = list_all-append is_mark (address_text (V4 n)) (58 ∷ decimal port) ∙ and-both _ _ (all_dots is_mark n digit_marks refl h) (port_marks port small);
    })
end_plain_at (V6 n) port h small =
    let digits : length (decimal port) ≤ 5 = port_short port small in
    record {
      some = omega arith;
      short = omega arith;
      marks = v6_marks n (93 ∷ 58 ∷ decimal port) h (port_marks port small);
    }

pub end-plain : (e : End) → IsEnd e → IsPlain 47 (end_text e)
end-plain e is = let port : e.port < 2 ^ 16 = is.port in end_plain_at e.addr e.port is.addr (omega arith)
