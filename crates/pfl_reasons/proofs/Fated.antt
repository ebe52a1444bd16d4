-- The records of a frame one after another, each with what becomes of it.
use Rattle.std.specs.Prelude.{◌≡◌, ◌++◌, ◌==◌, ℕ, Bool, List, [], ◌∷◌, length, refl}
use Rattle.std.specs.Cmp.Lexicographic.{pointwise}
use Rattle.std.proofs.Common.{◌∙◌, ap, sym, subst}
use Rattle.std.proofs.lemmas.List.{append_assoc, append-nil}
use Rattle.pfl_base.specs.declared.node_id.NodeId.{NodeId}
use Rattle.pfl_base.specs.declared.node_id.NodeId.TheVariants.{A, B}
use Rattle.pfl_edits.specs.Changes.{Fits, back}
use Rattle.pfl_edits.specs.Tapes.{above, below}
use Rattle.pfl_edits.proofs.ForCallers.{LeadsBack-append, LeadsBack-none}
use Rattle.pfl_rules.specs.Rules.{Rules}
use Rattle.pfl_wire.specs.declared.message.Message.{Message}
use Rattle.pfl_world.proofs.ForCallers.{split}
use Rattle.pfl_world.specs.declared.edit.WorldEdit.{WorldEdit}
use Rattle.pfl_world.specs.desk.Nodes.{Node}
use Rattle.pfl_world.specs.node.Delivering.{has_print, message_taken}
use Rattle.pfl_world.specs.node.Laws.{RecordsLeaveTheRest}
use Rattle.pfl_world.specs.receive.Receiving.{taken}
use Rattle.pfl_world.specs.WorldEdits.{Finds, WorldLeadsBack, put_back}
use Rattle.pfl_world.specs.Worlds.{IsWorld, World, node_at, with_node}
use Rattle.pfl_reasons.specs.Records.{fates, record_fate}
use Rattle.pfl_reasons.specs.declared.record_fate.RecordFate.{RecordFate}
use Rattle.pfl_reasons.specs.declared.record_fate.TakenRecord.{TakenRecord}

-- the node has taken the records before these, from a peer whose rules have the checksum
pub record AreFated {M : Type 0} (old w : World) (to : NodeId) (print : List ℕ) (all left : List Message) (list : List TakenRecord)
    (tape : List (WorldEdit M)) : Type 0 where
  pub leads_back : WorldLeadsBack tape old w
  pub same : has_print (node_at w to) print ≡ has_print (node_at old to) print
  pub rest : fates (node_at old to) (has_print (node_at old to) print) all ≡ list ++ fates (node_at w to) (has_print (node_at old to) print) left

fates-first : (n : Node) (b : Bool) (m : Message) (ms : List Message)
    → fates n b (m ∷ ms) ≡ record { message = m; fate = record_fate n b m } ∷ fates (taken n b m) b ms
unfolding fates
fates-first n b m ms = refl

fates-none : (n : Node) (b : Bool) → fates n b [] ≡ []
unfolding fates
fates-none n b = refl

node_at-with : (w : World) (id : NodeId) (n : Node) → node_at (with_node w id n) id ≡ n
node_at-with w A n = refl
node_at-with w B n = refl

-- before the first
pub fated-first : {M : Type 0} (old : World) (to : NodeId) (print : List ℕ) (all : List Message) → AreFated {M = M} old old to print all all [] []
fated-first old to print all = record { leads_back = LeadsBack-none Finds IsWorld put_back old; same = refl; rest = refl }

-- after one more
module _ {M : Type 0} (leave : RecordsLeaveTheRest) (old w : World) (to : NodeId) (print : List ℕ) (all left : List Message)
    (list : List TakenRecord) (tape : List (WorldEdit M)) (so : AreFated old w to print all left list tape)
    (m : Message) (rest : List Message) (steps : left ≡ m ∷ rest) (after : World) (made : after ≡ with_node w to (message_taken (node_at w to) m print)) where
  abbrev same_rules : Bool
  same_rules = has_print (node_at old to) print

  -- the node after it
  taken_there : node_at after to ≡ taken (node_at w to) same_rules m
  taken_there =
      ap (λ (v : World). node_at v to) made
      ∙ node_at-with w to (message_taken (node_at w to) m print)
      ∙ ap (λ (b : Bool). taken (node_at w to) b m) so.same

  same_still : has_print (node_at after to) print ≡ same_rules
  same_still =
      ap (λ (n : Node). has_print n print) taken_there
      ∙ ap (λ (r : Rules). pointwise ◌==◌ print r.print) (leave (node_at w to) same_rules m).rules
      ∙ so.same

  longer : (fate : RecordFate) → fate ≡ record_fate (node_at w to) (has_print (node_at w to) print) m
      → fates (node_at old to) same_rules all ≡ (list ++ record { message = m; fate = fate } ∷ []) ++ fates (node_at after to) same_rules rest
  longer fate is =
      let told : fate ≡ record_fate (node_at w to) same_rules m = is ∙ ap (λ (b : Bool). record_fate (node_at w to) b m) so.same in
      so.rest
      ∙ ap (λ (ms : List Message). list ++ fates (node_at w to) same_rules ms) steps
      ∙ ap (λ (ts : List TakenRecord). list ++ ts) (fates-first (node_at w to) same_rules m rest)
      ∙ ap (λ (n : Node). list ++ record { message = m; fate = record_fate (node_at w to) same_rules m } ∷ fates n same_rules rest) (sym taken_there)
      ∙ ap (λ (f : RecordFate). list ++ record { message = m; fate = f } ∷ fates (node_at after to) same_rules rest) (sym told)
      ∙ sym (append_assoc list (record { message = m; fate = fate } ∷ []) (fates (node_at after to) same_rules rest))

  pub fated-more : (fate : RecordFate) → fate ≡ record_fate (node_at w to) (has_print (node_at w to) print) m
      → (longer_tape : List (WorldEdit M)) → below (length tape) longer_tape ≡ tape
      → Fits Finds IsWorld put_back (above (length tape) longer_tape) after → back put_back (above (length tape) longer_tape) after ≡ w
      → AreFated old after to print all rest (list ++ record { message = m; fate = fate } ∷ []) longer_tape
  fated-more fate is longer_tape taped fits leads = record {
    leads_back = subst (λ (es : List (WorldEdit M)). WorldLeadsBack es old after) (sym (split tape longer_tape taped))
        (LeadsBack-append Finds IsWorld put_back tape (above (length tape) longer_tape) old w after so.leads_back (record { fits = fits; back = leads }));
    same = same_still;
    rest = longer fate is;
  }

-- after the last
pub fated-all : {M : Type 0} (old w : World) (to : NodeId) (print : List ℕ) (all left : List Message) (list : List TakenRecord)
    (tape : List (WorldEdit M)) → AreFated old w to print all left list tape
    → left ≡ [] → list ≡ fates (node_at old to) (has_print (node_at old to) print) all
fated-all old w to print all left list tape so none =
    sym (append-nil list)
    ∙ ap (λ (ts : List TakenRecord). list ++ ts) (sym (fates-none (node_at w to) (has_print (node_at old to) print)))
    ∙ ap (λ (ms : List Message). list ++ fates (node_at w to) (has_print (node_at old to) print) ms) (sym none)
    ∙ sym so.rest
