-- What the rules make of a packet that no state takes, by the rule that decides, and what a new state rests on.
use Rattle.std.specs.Prelude.{◌≡◌, ℕ, Bool, true, false, nat_le, slice_get, Option, Some, None, unwrap_or, refl}
use Rattle.std.specs.Option.{option_map_or}
use Rattle.std.proofs.Common.{cond, ◌∙◌, ap, subst, sym}
use Rattle.pfl_base.specs.declared.direction.Dir.{Dir}
use Rattle.pfl_base.specs.declared.packet.Packet.{Packet}
use Rattle.pfl_base.specs.Keys.{key}
use Rattle.pfl_edits.specs.Maps as maps
use Rattle.pfl_rules.specs.declared.rule.Rule.{Rule}
use Rattle.pfl_rules.specs.declared.verdict.Verdict.{Verdict}
use Rattle.pfl_rules.specs.Rules.{Rules, rule_at, verdict}
use Rattle.pfl_track.specs.declared.state.State.{State}
use Rattle.pfl_receive.specs.table.Tables.{by_stack, by_wire, count_of_rule}
use Rattle.pfl_receive.specs.table.Translating.{new_keys}
use Rattle.pfl_receive.specs.desk.Nodes.{Node}
use Rattle.pfl_language.specs.declared.fate.Reason.{Reason}
use Rattle.pfl_language.specs.declared.fate.Reason.TheVariants as reason
use Rattle.pfl_node.specs.declared.packet.ruling.Ruling.{Ruling}
use Rattle.pfl_node.specs.declared.packet.ruling.Ruling.TheVariants.{AtMax, Blocked, Full, StackInUse, Starts, Unmatched, WireInUse}
use Rattle.pfl_node.specs.Starting.{Handled, announced, by_keys, by_rule, carried, drop, is_at_max, judged, new_state, pass, ruled, starting, with_new}

-- the node's rules were asked
pub verdict-is : (rules given : Rules) (dir : Dir) (p : Packet) (v : Verdict) → v ≡ verdict given.list p dir → given ≡ rules → v ≡ verdict rules.list p dir
verdict-is rules given dir p v is same = is ∙ ap (λ (r : Rules). verdict r.list p dir) same

pub rule-is : (rules given : Rules) (number : ℕ) (found o : Option Rule) → found ≡ slice_get given.list number → given ≡ rules → found ≡ o
    → slice_get rules.list number ≡ o
rule-is rules given number found o is same at = ap (λ (r : Rules). slice_get r.list number) (sym same) ∙ (sym is ∙ at)

module _ (n : Node) (dir : Dir) (p : Packet) (v : Verdict) (is : v ≡ verdict n.rules.list p dir) where
  by_verdict : ruled n dir p ≡ option_map_or (by_rule n dir p v) v.rule Unmatched
  unfolding ruled
  by_verdict = ap (λ (v : Verdict). option_map_or (by_rule n dir p v) v.rule Unmatched) (sym is)

  pub unmatched : v.rule ≡ None → Unmatched ≡ ruled n dir p
  unmatched e = sym (by_verdict ∙ ap (λ (o : Option ℕ). option_map_or (by_rule n dir p v) o Unmatched) e)

  -- the rule of this number
  module _ (number : ℕ) (e : v.rule ≡ Some number) where
    by_pass : Bool → Ruling
    by_pass pass = cond pass (option_map_or (starting n dir p number) (slice_get n.rules.list number) Unmatched) (Blocked number)

    matched : ruled n dir p ≡ by_pass v.pass
    unfolding by_pass
    matched = by_verdict ∙ ap (λ (o : Option ℕ). option_map_or (by_rule n dir p v) o Unmatched) e

    pub blocked : v.pass ≡ false → Blocked number ≡ ruled n dir p
    unfolding by_pass
    blocked f = sym (matched ∙ ap by_pass f)

    pub passed : (o : Option Rule) (made : Ruling) → v.pass ≡ true → slice_get n.rules.list number ≡ o
        → made ≡ option_map_or (starting n dir p number) o Unmatched → made ≡ ruled n dir p
    unfolding by_pass
    passed o made t there is = is ∙ sym (matched ∙ (ap by_pass t ∙ ap (λ (r : Option Rule). option_map_or (starting n dir p number) r Unmatched) there))

-- ---- what a new state rests on

-- a rule of the node makes the state, and no state of the node has one of its keys
pub record IsNew (n : Node) (dir : Dir) (p : Packet) (s : State) : Type 0 where
  pub number : ℕ
  pub rule : Rule
  pub there : slice_get n.rules.list number ≡ Some rule
  pub is : s ≡ new_state n dir p number rule
  pub wire : by_wire n.states s.wire ≡ None
  pub stack : by_stack n.states s.stack ≡ None

-- what each ruling rests on
abbrev pub RulingRests : Node → Dir → Packet → Ruling → Type 0
RulingRests n dir p (Starts rule s) = IsNew n dir p s
RulingRests n dir p other = Unit {0}

module _ (n : Node) (dir : Dir) (p : Packet) where
  abbrev So : Ruling → Type 0
  So = RulingRests n dir p

  starting-rests : (number : ℕ) (r : Rule) → slice_get n.rules.list number ≡ Some r → So (starting n dir p number r)
  starting-rests number r there = by (is_at_max n number r) (nat_le n.limits.states (maps.len n.states))
      (by_wire n.states (new_keys n.states r (key p dir)).wire) refl (by_stack n.states (new_keys n.states r (key p dir)).stack) refl
    where
      by : (most full : Bool) (wire : Option State) → by_wire n.states (new_keys n.states r (key p dir)).wire ≡ wire
          → (stack : Option State) → by_stack n.states (new_keys n.states r (key p dir)).stack ≡ stack
          → So (cond most (AtMax number (unwrap_or r.max 0) (count_of_rule n.states number))
          (cond full (Full number n.limits.states (maps.len n.states)) (by_keys number wire stack (new_state n dir p number r))))
      by true full wire w stack s = tt
      by false true wire w stack s = tt
      by false false (Some x) w stack s = tt
      by false false None w (Some x) s = tt
      by false false None w None s = record { number = number; rule = r; there = there; is = refl; wire = w; stack = s }

  rule-rests : (number : ℕ) (o : Option Rule) → slice_get n.rules.list number ≡ o → So (option_map_or (starting n dir p number) o Unmatched)
  rule-rests number None there = tt
  rule-rests number (Some r) there = starting-rests number r there

  ruling-rests : So (ruled n dir p)
  unfolding ruled
  ruling-rests = by (verdict n.rules.list p dir).rule
    where
      by_pass : (number : ℕ) (pass : Bool)
          → So (cond pass (option_map_or (starting n dir p number) (rule_at n.rules.list (Some number)) Unmatched) (Blocked number))
      by_pass number true = rule-rests number (rule_at n.rules.list (Some number)) refl
      by_pass number false = tt

      by : (o : Option ℕ) → So (option_map_or (by_rule n dir p (verdict n.rules.list p dir)) o Unmatched)
      by None = tt
      by (Some number) = by_pass number (verdict n.rules.list p dir).pass

-- a packet is judged by doing what the rules made of it
pub judged-so : (P : Handled → Type 0) (n k : Node) (dir : Dir) (p : Packet) (r : Ruling) → r ≡ ruled k dir p → k ≡ n → P (carried n dir p r)
    → P (judged n dir p)
unfolding judged
judged-so P n k dir p r made same holds = subst (λ (q : Ruling). P (carried n dir p q)) (made ∙ ap (λ (m : Node). ruled m dir p) same) holds

-- what holds of a packet that goes on without a state, of one that is dropped, and of one that makes a state, holds of each
carried-by : (P : Handled → Type 0) (n : Node) (dir : Dir) (p : Packet) → P (pass n None) → ((why : Reason) → P (drop n why))
    → ((s : State) → IsNew n dir p s → P (announced (with_new n s) s dir p))
    → (r : Ruling) → RulingRests n dir p r → P (carried n dir p r)
carried-by P n dir p passes drops starts Unmatched so = passes
carried-by P n dir p passes drops starts (Blocked rule) so = drops reason.Block
carried-by P n dir p passes drops starts (AtMax rule most states) so = drops reason.Max
carried-by P n dir p passes drops starts (Full rule limit states) so = drops reason.Full
carried-by P n dir p passes drops starts (WireInUse rule name) so = drops reason.Key
carried-by P n dir p passes drops starts (StackInUse rule name) so = drops reason.Key
carried-by P n dir p passes drops starts (Starts rule s) so = starts s so

pub judged-by : (P : Handled → Type 0) (n : Node) (dir : Dir) (p : Packet) → P (pass n None) → ((why : Reason) → P (drop n why))
    → ((s : State) → IsNew n dir p s → P (announced (with_new n s) s dir p)) → P (judged n dir p)
unfolding judged
judged-by P n dir p passes drops starts = carried-by P n dir p passes drops starts (ruled n dir p) (ruling-rests n dir p)
