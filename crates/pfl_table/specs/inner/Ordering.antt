-- What the indexes of a table go by, and in which order.
use Rattle.std.specs.Prelude.{ℕ, ◌+◌, ◌*◌, ◌/◌, ◌%◌, ◌^◌, ◌==◌, ◌&&◌, ◌||◌, nat_lt, Bool, List, [], ◌∷◌, Option, Some, None, slice_index_or, if◌then◌else◌}
use Rattle.std.specs.declared.cmp.Ordering.{Ordering}
use Rattle.std.specs.Ordering.{is_lt, nat_cmp, on, then_cmp}
use Rattle.std.specs.Cmp.{IsTotalOrder, nat_cmp_total}
use Rattle.std.specs.Cmp.Lexicographic.{slice_cmp}
use Rattle.std.specs.FinMap.{IsAntisymmetric, nat_cmp-IsAntisymmetric, slice_cmp-IsAntisymmetric}
use Rattle.std.proofs.Common.{ap}
use Rattle.std.proofs.lemmas.Cmp.{on_total, then_total, nat_list_cmp_total}
use Rattle.std.proofs.lemmas.Map.Lookups.{exact_pairs, exact_unsigned}
use Rattle.pfl_base.specs.declared.addr.Addr.{Addr}
use Rattle.pfl_base.specs.declared.addr.Addr.TheVariants.{V4, V6}
use Rattle.pfl_base.specs.declared.flow.Key.{Key}
use Rattle.pfl_base.specs.declared.state_name.StateName.{StateName}
use Rattle.pfl_base.specs.Ends.{is_v4, proto_number}
use Rattle.pfl_base.specs.Names.{name_cmp}
use Rattle.pfl_base.proofs.ForCallers.{names_total, names_exact}
use Rattle.pfl_rules.specs.declared.adaptive.Adaptive.{Adaptive}
use Rattle.pfl_rules.specs.Scaling.{scaled}
use Rattle.pfl_containers.specs.declared.by_name.ByName.{ByName}
use Rattle.pfl_containers.specs.Hashes.{mixed}
use Rattle.pfl_containers.specs.NameKeys.{by_name_hash}
use Rattle.pfl_containers.specs.Slots.{tag_in}
use Rattle.pfl_table.specs.declared.keys.Expiry.{Expiry}
use Rattle.pfl_table.specs.declared.row.Row.{Row}

-- ---- names

abbrev pub by_name : Row → ByName
by_name r = record { 0 = r.state.name }

-- the tag of a name
abbrev pub name_tag : ByName → ℕ
name_tag n = tag_in (by_name_hash n)

-- ---- flows

abbrev pub number_of : Addr → ℕ
number_of (V4 n) = n
number_of (V6 n) = n

abbrev pub version_of : Addr → ℕ
version_of a = if is_v4 a then 4 else 6

-- the numbers that make a flow
pub record Flow : Type 0 where
  pub far : ℕ
  pub near : ℕ
  pub far_port : ℕ
  pub near_port : ℕ
  pub far_version : ℕ
  pub near_version : ℕ
  pub proto : ℕ

-- those of a key
abbrev pub flow_of : Key → Flow
flow_of k = record {
  far = number_of k.far.addr;
  near = number_of k.near.addr;
  far_port = k.far.port;
  near_port = k.near.port;
  far_version = version_of k.far.addr;
  near_version = version_of k.near.addr;
  proto = proto_number k.proto;
}

abbrev pub numbers_of : Flow → List ℕ
numbers_of f = f.far ∷ f.near ∷ f.far_port ∷ f.near_port ∷ f.far_version ∷ f.near_version ∷ f.proto ∷ []

abbrev of_numbers : List ℕ → Flow
of_numbers ns = record {
  far = slice_index_or ns 0 0;
  near = slice_index_or ns 1 0;
  far_port = slice_index_or ns 2 0;
  near_port = slice_index_or ns 3 0;
  far_version = slice_index_or ns 4 0;
  near_version = slice_index_or ns 5 0;
  proto = slice_index_or ns 6 0;
}

abbrev pub flow_cmp : Flow → Flow → Ordering
flow_cmp = on numbers_of (slice_cmp nat_cmp)

pub flow_total : IsTotalOrder flow_cmp
flow_total = on_total numbers_of nat_list_cmp_total

pub flow_exact : IsAntisymmetric flow_cmp
flow_exact f g e = ap of_numbers (slice_cmp-IsAntisymmetric nat_cmp-IsAntisymmetric (numbers_of f) (numbers_of g) e)

-- a hash with both halves of a number in it
abbrev pub mixed_halves : ℕ → ℕ → ℕ
mixed_halves hash n = mixed (mixed hash (n / 2 ^ 64)) (n % 2 ^ 64)

-- two addresses of IPv4 are one word, and others are two words each
abbrev pub addresses_hash : Flow → ℕ
addresses_hash f =
    if (f.far_version == 4) && (f.near_version == 4) then mixed 0 (f.far * 2 ^ 32 + f.near) else mixed_halves (mixed_halves 0 f.far) f.near

abbrev pub flow_hash : Flow → ℕ
flow_hash f = mixed (addresses_hash f) ((f.far_port * 2 ^ 16 + f.near_port) * 2 ^ 8 + f.proto)

-- the tag of a flow
abbrev pub flow_tag : Flow → ℕ
flow_tag f = tag_in (flow_hash f)

-- ---- expiries

-- what says when a row would expire if it had last been used at this time
abbrev pub expiry_at : Row → ℕ → Expiry
expiry_at r time = record { timeout = r.timeout; creator = r.state.name.creator; time = time; id = r.state.name.id }

-- what says when a row expires
abbrev pub expiry_of : Row → Expiry
expiry_of r = expiry_at r r.state.last

-- the name of the row
abbrev pub name_in : Expiry → StateName
name_in e = record { creator = e.creator; id = e.id }

-- by timeout, then by time, then by name
abbrev pub expiry_cmp : Expiry → Expiry → Ordering
expiry_cmp = then_cmp (on (λ e. e.timeout) nat_cmp) (then_cmp (on (λ e. e.time) nat_cmp) (on name_in name_cmp))

pub expiry_total : IsTotalOrder expiry_cmp
expiry_total = then_total (on_total (λ e. e.timeout) nat_cmp_total) (then_total (on_total (λ e. e.time) nat_cmp_total) (on_total name_in names_total))

pub expiry_exact : IsAntisymmetric expiry_cmp
expiry_exact a b e =
    ap (λ (p : ℕ × (ℕ × StateName)). record { timeout = p.0; creator = p.1.1.creator; time = p.1.0; id = p.1.1.id })
    (exact_pairs nat_cmp (then_cmp (on (λ q. q.0) nat_cmp) (on (λ q. q.1) name_cmp)) exact_unsigned (exact_pairs nat_cmp name_cmp exact_unsigned names_exact)
    (a.timeout, (a.time, name_in a)) (b.timeout, (b.time, name_in b)) e)

-- when the row expires where timeouts are scaled for this number of states
abbrev pub due_at : Adaptive → ℕ → Expiry → ℕ
due_at a states e = e.time + scaled e.timeout a states * 1000

-- by this, then by name
abbrev pub due_before : Adaptive → ℕ → Expiry → Expiry → Bool
due_before a states e f =
    nat_lt (due_at a states e) (due_at a states f) || ((due_at a states e == due_at a states f) && is_lt (name_cmp (name_in e) (name_in f)))

-- which of these rows expires first: the latter unless the former expires before it
abbrev pub sooner : Adaptive → ℕ → Option Row → Row → Row
sooner a states None r = r
sooner a states (Some first) r = if due_before a states (expiry_of first) (expiry_of r) then first else r
