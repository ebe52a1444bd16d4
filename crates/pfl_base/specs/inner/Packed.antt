-- Addresses as they are kept.
use Rattle.std.specs.Prelude.{◌≡◌, ℕ, Bool, ◌&&◌, nat_eq, List, [], ◌∷◌, refl}
use Rattle.std.specs.Cmp.{IsEquivalence, and_equiv}
use Rattle.std.specs.Cmp.Lexicographic.{on_texts_equal, pointwise}
use Rattle.std.specs.Ordering.{on}
use Rattle.std.proofs.lemmas.Cmp.{nat_eq_equiv, on_equiv}
use Rattle.pfl_base.specs.declared.addr.Addr.{Addr}
use Rattle.pfl_base.specs.declared.addr.End.{End}
use Rattle.pfl_base.specs.declared.addr.Addr.TheVariants as known_as
use Rattle.pfl_base.specs.Ends.{proto_number}
use Rattle.pfl_base.specs.declared.flow.Key.{Key}
use Rattle.pfl_base.specs.declared.packed.AddrBytes.{AddrBytes}
use Rattle.pfl_base.specs.declared.packed.AddrBytes.TheVariants as kept_as

-- the address that is kept
abbrev pub known : AddrBytes → Addr
known (kept_as.V4 number) = known_as.V4 number
known (kept_as.V6 number) = known_as.V6 number

-- how an address is kept
abbrev pub kept : Addr → AddrBytes
kept (known_as.V4 number) = kept_as.V4 number
kept (known_as.V6 number) = kept_as.V6 number

pub known_kept : (a : AddrBytes) → kept (known a) ≡ a
known_kept (kept_as.V4 number) = refl
known_kept (kept_as.V6 number) = refl

-- an address as numbers: its version first
abbrev pub address_numbers : Addr → List ℕ
address_numbers (known_as.V4 number) = 4 ∷ number ∷ []
address_numbers (known_as.V6 number) = 6 ∷ number ∷ []

-- an end as numbers, which no other end has
abbrev pub end_numbers : End → List ℕ
end_numbers e = e.port ∷ address_numbers e.addr

-- both flows are one
abbrev pub is_key : Key → Key → Bool
is_key a b =
    (on (λ k. proto_number k.proto) nat_eq a b && on (λ k. end_numbers k.far) (pointwise nat_eq) a b)
    && on (λ k. end_numbers k.near) (pointwise nat_eq) a b

pub is_key_equiv : IsEquivalence is_key
is_key_equiv =
    and_equiv
    (and_equiv (on_equiv (λ (k : Key). proto_number k.proto) nat_eq_equiv) (on_texts_equal (λ (k : Key). end_numbers k.far)))
    (on_texts_equal (λ (k : Key). end_numbers k.near))
