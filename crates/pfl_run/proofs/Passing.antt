-- Words without a fault give each option of a subcommand that was met values that pass.
use Rattle.std.proofs.Common.{◌≡◌, ℕ, zero, suc, ◌<◌, Bool, true, false, List, [], ◌∷◌, ◌++◌, length, drop, Option, Some, None, refl, sym, ap, subst}
use Rattle.std.proofs.Common.{arith, cond, inl, inr}
use Rattle.std.specs.Prelude.{not, ◌&&◌, ◌||◌, ◌⊎◌, is_some, find, fold, slice_get, encode_utf8}
use Rattle.std.specs.Option.{option_map_or}
use Rattle.std.specs.Str.{bytes_eq, chars}
use Rattle.std.proofs.lemmas.Slice.Eq.{bytes_eq-Decides}
use Rattle.clap.specs.Lexer.{long_of, short_of}
use Rattle.clap.specs.Facts.{explicit_source, unwrap_or_range}
use Rattle.clap.specs.Walk.{Held, Outcome, done, waits, plain, refused, Row, Rule, Step, next, trailing, subcommand, value, Text, Waiting, idle}
use Rattle.clap.specs.Walk.{option, positional, Walk}
use Rattle.clap.specs.Walk.{action_of, after_flag, after_step, arg_by_id, arg_by_index, arg_by_long, arg_by_short, at_row, attached_value, bundle}
use Rattle.clap.specs.Walk.{bundle_met, bundle_step}
use Rattle.clap.specs.Walk.{default_rows, flag_met, has_row, is_pending, long_met, long_or_other, more_values, most_values, nothing_held, option_met}
use Rattle.clap.specs.Walk.{option_word, plain_word, pushed}
use Rattle.clap.specs.Walk.{reacted, reading_by, rows_after, settled, settled_rows, short_met, short_or_plain, subcommand_or_other, takes_several}
use Rattle.clap.specs.Walk.{takes_values, to_positional, used, used_as, used_by_id, values_or_missing}
use Rattle.clap.specs.Walk.{walk, walk_from, walked, walked_from, with_default, with_values, without, word_met}
use Rattle.clap.specs.Simple.{Shape}
use Rattle.clap.specs.Takes.{is_given}
use Rattle.clap.specs.Kinds.{Kinds, or_else, range_kinds}
use Rattle.clap.specs.Faults.{action_fault, bundle_fault, bundle_step_fault, flag_word_fault, flags_fault, level_fault, long_fault, option_fault}
use Rattle.clap.specs.Faults.{other_fault, positional_fault, react_fault}
use Rattle.clap.specs.Faults.{set_fault, settle_fault, short_fault, step_fault, stray_fault, turn_fault, use_fault, values_fault, walk_fault, word_fault}
use Rattle.clap.specs.declared.builder.action.ArgAction.{ArgAction}
use Rattle.clap.specs.declared.builder.action.ArgAction.TheVariants.{Set, Help}
use Rattle.clap.specs.declared.builder.value_parser.Reading.{Reading}
use Rattle.clap.specs.declared.error.kind.ErrorKind.TheVariants.{ArgumentConflict, DisplayHelp, TooManyValues}
use Rattle.clap.specs.declared.parser.matches.ValueSource.TheVariants.{CommandLine}

-- two lists of kinds of which no kind comes are both empty
pub or_else_first : (a b : Kinds) → or_else a b ≡ [] → a ≡ []
or_else_first [] b h = refl
or_else_first (k ∷ ks) b h = cc

pub or_else_second : (a b : Kinds) → or_else a b ≡ [] → b ≡ []
or_else_second [] b h = h
or_else_second (k ∷ ks) b h = cc

-- a fact of each
abbrev pub Each : {X : Type 0} → (X → Type 0) → List X → Type 0
Each P [] = Unit {0}
Each P (x ∷ xs) = P x × Each P xs

each_more : {X : Type 0} (P : X → Type 0) (xs : List X) (x : X) → Each P xs → P x → Each P (xs ++ x ∷ [])
each_more P [] x h p = (p, tt)
each_more P (y ∷ ys) x h p = (h.0, each_more P ys x h.1 p)

-- it holds of what is found
found_one : {X : Type 0} (P : X → Type 0) (p : X → Bool) (xs : List X) (x : X) → Each P xs → find p xs ≡ Some x → P x
found_one P p [] x h e = cc
found_one P p (y ∷ ys) x h e = go (p y) e (λ r. found_one P p ys x h.1 r)
  where
    go : (b : Bool) → cond b (Some y) (find p ys) ≡ Some x → (find p ys ≡ Some x → P x) → P x
    go true same rest = let is : y ≡ x = cc in subst P is h.0
    go false same rest = rest same

-- rows without an id, where none has it
without_same : (id : Text) (rows : List Row) → has_row id rows ≡ false → without id rows ≡ rows
without_same id [] h = refl
without_same id (r ∷ rs) h = go (bytes_eq r.id id) h (without_same id rs)
  where
    go : (b : Bool) → (b || has_row id rs) ≡ false → (has_row id rs ≡ false → without id rs ≡ rs) → cond b ([] ++ rs) (r ∷ without id rs) ≡ r ∷ rs
    go true h rest = cc
    go false h rest = ap (λ (l : List Row). r ∷ l) (rest h)

-- a row with a new id comes last
row_last : (id : Text) (change : Row → List Row) (missing rows : List Row) → has_row id rows ≡ false → at_row id change missing rows ≡ rows ++ missing
row_last id change missing [] h = refl
row_last id change missing (r ∷ rs) h = go (bytes_eq r.id id) h (row_last id change missing rs)
  where
    go : (b : Bool) → (b || has_row id rs) ≡ false → (has_row id rs ≡ false → at_row id change missing rs ≡ rs ++ missing) →
        cond b (change r ++ rs) (r ∷ at_row id change missing rs) ≡ r ∷ (rs ++ missing)
    go true h rest = cc
    go false h rest = ap (λ (l : List Row). r ∷ l) (rest h)

-- an argument that may not be used twice was not used yet
not_yet : (b : Bool) → cond (b && not false) (ArgumentConflict ∷ []) [] ≡ [] → b ≡ false
not_yet true h = cc
not_yet false h = refl

-- an argument takes one value or more, or asks for help; and has no default
abbrev pub IsPlainRule : Rule → Type 0
IsPlainRule a = (((action_of a ≡ Set) × ((unwrap_or_range a.range).start_inclusive ≡ 1)) ⊎ (action_of a ≡ Help)) × (a.defaults ≡ [])

module _ (Good : Text → List Text → Type 0) where
  -- what passes an argument's parser is good for it
  abbrev pub Meets : Rule → Type 0
  Meets a = IsPlainRule a × ((vs : List Text) → 0 < length vs → values_fault a vs ≡ [] → Good a.id vs)

  -- the values of a row are good
  abbrev pub Passes : Row → Type 0
  Passes r = Good r.id r.values

  -- and of all rows
  abbrev pub Kept : Held → Type 0
  Kept h = Each Passes h.rows

  set_kept : (id : Text) (how : Reading) (vs : List Text) (rows : List Row) → has_row id rows ≡ false → Each Passes rows → Good id vs →
      Each Passes (with_values id how CommandLine vs (without id rows))
  set_kept id how vs rows fresh h good =
      subst (λ (l : List Row). Each Passes (with_values id how CommandLine vs l)) (sym (without_same id rows fresh))
      (subst (λ (l : List Row). Each Passes l) (sym (row_last id (more_values CommandLine vs) _ rows fresh)) (each_more Passes rows _ h good))

  use_set : (a : Rule) (values : List Text) (rows : List Row) → action_of a ≡ Set → (unwrap_or_range a.range).start_inclusive ≡ 1 →
      ((vs : List Text) → 0 < length vs → values_fault a vs ≡ [] → Good a.id vs) →
      use_fault false a values rows ≡ [] → Each Passes rows → Each Passes (used a values rows)
  use_set a [] rows set one good e h =
      let none : range_kinds (unwrap_or_range a.range).start_inclusive (most_values a) 0 ≡ [] = or_else_first _ _ e in
      let bad : range_kinds 1 (most_values a) 0 ≡ [] = subst (λ (n : ℕ). range_kinds n (most_values a) 0 ≡ []) one none in
      cc
  use_set a (v ∷ vs) rows set one good e h =
      let act : action_fault (action_of a) false a (v ∷ vs) rows ≡ [] = or_else_second _ _ e in
      let as_set : set_fault false a (v ∷ vs) rows ≡ [] = subst (λ (x : ArgAction). action_fault x false a (v ∷ vs) rows ≡ []) set act in
      let fresh = not_yet (has_row a.id rows) (or_else_first _ _ as_set) in
      let passed : values_fault a (v ∷ vs) ≡ [] = or_else_second _ _ as_set in
      subst (λ (x : ArgAction). Each Passes (used_as x a.id (reading_by a) (v ∷ vs) rows)) (sym set)
      (set_kept a.id (reading_by a) (v ∷ vs) rows fresh h (good (v ∷ vs) (omega arith) passed))

  -- a use of an argument that fails in nothing
  use_kept : (a : Rule) (values : List Text) (rows : List Row) → Meets a → use_fault false a values rows ≡ [] → Each Passes rows
      → Each Passes (used a values rows)
  use_kept a values rows m e h = elim m.0.0 [
    | inl set ↦ use_set a values rows set.0 set.1 m.1 e h
    | inr help ↦
        let act : action_fault (action_of a) false a (values_or_missing a values) rows ≡ [] = or_else_second _ _ e in
        let bad : DisplayHelp ∷ [] ≡ [] = subst (λ (x : ArgAction). action_fault x false a (values_or_missing a values) rows ≡ []) help act in
        cc
  ]

  by_id_kept : (o : Option Rule) (vs : List Text) (rows : List Row) → ((a : Rule) → o ≡ Some a → Meets a) →
      option_map_or (λ a. use_fault false a vs rows) o [] ≡ [] → Each Passes rows → Each Passes (used_by_id o vs rows)
  by_id_kept None vs rows m e h = h
  by_id_kept (Some a) vs rows m e h = use_kept a vs rows (m a refl) e h

  settle_kept : (c : List Rule) (p : Option (Text × List Text)) (rows : List Row) → Each Meets c →
      option_map_or (λ p. option_map_or (λ a. use_fault false a p.1 rows) (arg_by_id c p.0) []) p [] ≡ [] → Each Passes rows
      → Each Passes (settled_rows c p rows)
  settle_kept c None rows m e h = h
  settle_kept c (Some p) rows m e h = by_id_kept (arg_by_id c p.0) p.1 rows (λ a found. found_one Meets _ c a m found) e h

  react_kept : (c : List Rule) (a : Rule) (vs : List Text) (h : Held) → Each Meets c → Meets a → react_fault c false a vs h ≡ [] → Kept h
      → Kept (reacted c a vs h)
  react_kept c a vs h m ma e k =
      use_kept a vs (settled c h).rows ma (or_else_second _ _ e) (settle_kept c h.pending h.rows m (or_else_first _ _ e) k)

  option_kept : (c : List Rule) (a : Rule) (v : Option Text) (h : Held) → Each Meets c → Meets a → option_fault c false a v h ≡ [] → Kept h
      → Kept (option_met c a v h).0
  option_kept c a (Some v) h m ma e k = react_kept c a (v ∷ []) h m ma e k
  option_kept c a None h m ma e k = settle_kept c h.pending h.rows m e k

  takes_kept : (b : Bool) (c : List Rule) (a : Rule) (v : Option Text) (h : Held) → Each Meets c → Meets a →
      cond b (option_fault c false a v h) (cond (is_some v) (TooManyValues ∷ []) (react_fault c false a [] h)) ≡ [] → Kept h →
      Kept (cond b (option_met c a v h) (flag_met c a v h)).0
  takes_kept true c a v h m ma e k = option_kept c a v h m ma e k
  takes_kept false c a (Some v) h m ma e k = k
  takes_kept false c a None h m ma e k = react_kept c a [] h m ma e k

  long_kept : (c : List Rule) (o : Option Rule) (v : Option Text) (h : Held) → Each Meets c → ((a : Rule) → o ≡ Some a → Meets a) →
      long_fault c false o v h ≡ [] → Kept h → Kept (long_met c o v h).0
  long_kept c None v h m mo e k = k
  long_kept c (Some a) v h m mo e k = takes_kept (takes_values a) c a v h m (mo a refl) e k

  short_takes : (b : Bool) (c : List Rule) (a : Rule) (v : Option Text) (h : Held) (fails : Held → Kinds) (goes : Held → Held × Outcome) →
      ((h : Held) → fails h ≡ [] → Kept h → Kept (goes h).0) → Each Meets c → Meets a →
      cond b (option_fault c false a v h) (or_else (react_fault c false a [] h) (fails (reacted c a [] h))) ≡ [] → Kept h →
      Kept (cond b (option_met c a v h) (goes (reacted c a [] h))).0
  short_takes true c a v h fails goes on m ma e k = option_kept c a v h m ma e k
  short_takes false c a v h fails goes on m ma e k =
      on (reacted c a [] h) (or_else_second _ _ e) (react_kept c a [] h m ma (or_else_first _ _ e) k)

  short_kept : (c : List Rule) (o : Option Rule) (rest : Text) (h : Held) (fails : Held → Kinds) (goes : Held → Held × Outcome) →
      ((h : Held) → fails h ≡ [] → Kept h → Kept (goes h).0) → Each Meets c → ((a : Rule) → o ≡ Some a → Meets a) →
      short_fault c false o rest h fails ≡ [] → Kept h → Kept (short_met c o rest h goes).0
  short_kept c None rest h fails goes on m mo e k = k
  short_kept c (Some a) rest h fails goes on m mo e k = short_takes (takes_values a) c a (attached_value rest) h fails goes on m (mo a refl) e k

  step_kept : (c : List Rule) (o : Option ℕ) (flags : Text) (skip : ℕ) (so_far : Outcome) (h : Held)
      (fails : Text → ℕ → Held → Kinds) (goes : Text → ℕ → Outcome → Held → Held × Outcome) →
      ((flags : Text) (skip : ℕ) (so_far : Outcome) (h : Held) → fails flags skip h ≡ [] → Kept h → Kept (goes flags skip so_far h).0) → Each Meets c →
      bundle_step_fault c false o flags skip h fails ≡ [] → Kept h → Kept (bundle_step c o flags skip so_far h goes).0
  step_kept c None flags skip so_far h fails goes on m e k = k
  step_kept c (Some x) flags zero so_far h fails goes on m e k =
      let rest = drop (length (encode_utf8 x)) flags in
      short_kept c (arg_by_short c x) rest h (fails rest 0) (goes rest 0 done) (on rest 0 done) m (λ a found. found_one Meets _ c a m found) e k
  step_kept c (Some x) flags (suc n) so_far h fails goes on m e k = on (drop (length (encode_utf8 x)) flags) n so_far h e k

  flags_kept : (c : List Rule) (n : ℕ) (flags : Text) (skip : ℕ) (so_far : Outcome) (h : Held) → Each Meets c →
      flags_fault c false n flags skip h ≡ [] → Kept h → Kept (bundle_met c n flags skip so_far h).0
  unfolding flags_fault bundle_met
  flags_kept c zero flags skip so_far h m e k = k
  flags_kept c (suc n) flags skip so_far h m e k =
      step_kept c (slice_get (chars flags) 0) flags skip so_far h (flags_fault c false n) (bundle_met c n)
      (λ flags skip so_far h e k. flags_kept c n flags skip so_far h m e k) m e k

  option_word_kept : (o : Option Rule) (id word : Text) (h : Held) → Kept h → Kept (option_word o id word h).0
  option_word_kept None id word h k = k
  option_word_kept (Some a) id word h k = k

  plain_kept : (c : List Rule) (waiting : Waiting) (word : Text) (h : Held) → Kept h → Kept (plain_word c waiting word h).0
  plain_kept c idle word h k = k
  plain_kept c positional word h k = k
  plain_kept c (option id) word h k = option_word_kept (arg_by_id c id) id word h k

  after_kept : (c : List Rule) (waiting : Waiting) (word : Text) (h : Held) (o : Outcome) → Kept h → Kept (after_flag c waiting word h o).0
  after_kept c waiting word h done k = k
  after_kept c waiting word h (waits id) k = k
  after_kept c waiting word h plain k = plain_kept c waiting word h k
  after_kept c waiting word h refused k = plain_kept c waiting word h k

  shorts_kept : (c : List Rule) (waiting : Waiting) (word : Text) (o : Option Text) (h : Held) → Each Meets c →
      option_map_or (λ flags. bundle_fault c false flags h) o [] ≡ [] → Kept h → Kept (short_or_plain c waiting word o h).0
  shorts_kept c waiting word None h m e k = plain_kept c waiting word h k
  shorts_kept c waiting word (Some flags) h m e k =
      after_kept c waiting word (bundle c flags h).0 (bundle c flags h).1 (flags_kept c (length flags) flags h.skip plain (record h { skip = 0 }) m e k)

  longs_kept : (c : List Rule) (waiting : Waiting) (word : Text) (o : Option (Text × Option Text)) (h : Held) → Each Meets c →
      flag_word_fault c false o word h ≡ [] → Kept h → Kept (long_or_other c waiting word o h).0
  longs_kept c waiting word None h m e k = shorts_kept c waiting word (short_of word) h m e k
  longs_kept c waiting word (Some p) h m e k =
      after_kept c waiting word _ _ (long_kept c (arg_by_long c p.0) p.1 h m (λ a found. found_one Meets _ c a m found) e k)

  dashes_kept : (b : Bool) (c : List Rule) (waiting : Waiting) (position : ℕ) (word : Text) (h : Held) → Each Meets c →
      cond b [] (flag_word_fault c false (long_of word) word h) ≡ [] → Kept h
      → Kept (cond b (h, trailing position) (long_or_other c waiting word (long_of word) h)).0
  dashes_kept true c waiting position word h m e k = k
  dashes_kept false c waiting position word h m e k = longs_kept c waiting word (long_of word) h m e k

  word_kept : (s : Shape) (waiting : Waiting) (position : ℕ) (word : Text) (h : Held) → s.args_override_self ≡ false → Each Meets s.rules →
      other_fault s None word h ≡ [] → Kept h → Kept (subcommand_or_other s.rules None waiting position word h).0
  word_kept s waiting position word h once m e k =
      dashes_kept (bytes_eq word (45 ∷ 45 ∷ [])) s.rules waiting position word h m
      (subst (λ (b : Bool). cond (bytes_eq word (45 ∷ 45 ∷ [])) [] (flag_word_fault s.rules b (long_of word) word h) ≡ []) once e) k

  met_kept : (s : Shape) (is_trailing : Bool) (waiting : Waiting) (position : ℕ) (word : Text) (h : Held) → s.args_override_self ≡ false → Each Meets s.rules →
      word_fault s [] is_trailing waiting word h ≡ [] → Kept h → Kept (word_met s.rules [] is_trailing waiting position word h).0
  met_kept s true waiting position word h once m e k = k
  met_kept s false idle position word h once m e k = word_kept s idle position word h once m e k
  met_kept s false (option id) position word h once m e k = word_kept s (option id) position word h once m e k
  met_kept s false positional position word h once m e k = word_kept s positional position word h once m e k

  push_kept : (b : Bool) (c : List Rule) (a : Rule) (word : Text) (h : Held) → Each Meets c →
      cond b [] (settle_fault c false h) ≡ [] → Kept h → Kept (pushed a.id word (cond b h (settled c h)))
  push_kept true c a word h m e k = k
  push_kept false c a word h m e k = settle_kept c h.pending h.rows m e k

  positional_kept : (s : Shape) (o : Option Rule) (word : Text) (w : Walk) (h : Held) → s.args_override_self ≡ false → Each Meets s.rules →
      option_map_or (λ a. positional_fault s.rules s.args_override_self a h) o (stray_fault s) ≡ [] → Kept h → Kept (to_positional s.rules o word w h).held
  positional_kept s None word w h once m e k = k
  positional_kept s (Some a) word w h once m e k =
      push_kept (is_pending a h.pending && takes_several a) s.rules a word h m
      (subst (λ (b : Bool). positional_fault s.rules b a h ≡ []) once e) k

  place_kept : (s : Shape) (w : Walk) (word : Text) (h : Held) (step : Step) → s.args_override_self ≡ false → Each Meets s.rules →
      step_fault s w.position h step ≡ [] → Kept h → Kept (after_step s.rules word w h step).held
  place_kept s w word h (next waiting) once m e k = k
  place_kept s w word h (trailing position) once m e k = k
  place_kept s w word h (subcommand name) once m e k = k
  place_kept s w word h value once m e k = positional_kept s (arg_by_index s.rules w.position) word w h once m e k

  stop_kept : (s : Shape) (stop : Option (Text × List Text)) (w : Walk) (word : Text) → s.args_override_self ≡ false → Each Meets s.rules →
      cond (is_some stop) [] (or_else (word_fault s [] w.is_trailing w.waiting word w.held)
      (step_fault s w.position (word_met s.rules [] w.is_trailing w.waiting w.position word w.held).0
      (word_met s.rules [] w.is_trailing w.waiting w.position word w.held).1)) ≡ [] →
      Kept w.held → Kept (walked_from s.rules [] stop w word).held
  stop_kept s (Some p) w word once m e k = k
  stop_kept s None w word once m e k =
      place_kept s w word _ _ once m (or_else_second _ _ e) (met_kept s w.is_trailing w.waiting w.position word w.held once m (or_else_first _ _ e) k)

  turn_kept : (s : Shape) (w : Walk) (word : Text) → s.args_override_self ≡ false → Each Meets s.rules →
      turn_fault s [] w word ≡ [] → Kept w.held → Kept (walked s.rules [] w word).held
  unfolding walked
  turn_kept s w word once m e k = stop_kept s w.stopped w word once m e k

  walk_kept : (s : Shape) (words : List Text) (w : Walk) → s.args_override_self ≡ false → Each Meets s.rules →
      walk_fault s [] w words ≡ [] → Kept w.held → Kept (fold (walked s.rules []) w words).held
  unfolding walk_fault
  walk_kept s [] w once m e k = k
  walk_kept s (x ∷ xs) w once m e k =
      walk_kept s xs (walked s.rules [] w x) once m (or_else_second _ _ e) (turn_kept s w x once m (or_else_first _ _ e) k)

  default_same : (b : Bool) (a : Rule) (rows : List Row) → a.defaults ≡ [] → cond b rows (default_rows a.id (reading_by a) a.defaults rows) ≡ rows
  default_same true a rows none = refl
  default_same false a rows none = subst (λ (l : List Text). default_rows a.id (reading_by a) l rows ≡ rows) (sym none) refl

  defaults_same : (c : List Rule) (rows : List Row) → Each Meets c → fold with_default rows c ≡ rows
  defaults_same [] rows m = refl
  defaults_same (a ∷ rest) rows m =
      subst (λ (l : List Row). fold with_default l rest ≡ rows) (sym (default_same (has_row a.id rows) a rows m.0.0.1)) (defaults_same rest rows m.1)

  -- the rows of a level of words without a fault
  pub level_kept : (s : Shape) (words : List Text) → s.args_override_self ≡ false → Each Meets s.rules →
      level_fault s [] nothing_held words false [] ≡ [] → Each Passes (rows_after s.rules [] words)
  level_kept s words once m e =
      let end = (walk s.rules [] nothing_held words).held in
      let walks = walk_kept s words (walk_from nothing_held) once m (or_else_first _ _ e) tt in
      let settles : settle_fault s.rules s.args_override_self end ≡ [] = or_else_first _ _ (or_else_second _ _ e) in
      let settled_rows_pass = settle_kept s.rules end.pending end.rows m (subst (λ (b : Bool). settle_fault s.rules b end ≡ []) once settles) walks in
      subst (λ (l : List Row). Each Passes l) (sym (defaults_same s.rules (settled s.rules end).rows m)) settled_rows_pass

  -- the row of an argument that was given
  pub row_given : (id : Text) (rows : List Row) → Each Passes rows → is_given id rows ≡ true →
      (r : Row) × (find (λ r. bytes_eq r.id id) rows ≡ Some r) × Good id r.values
  row_given id [] h given = cc
  row_given id (x ∷ xs) h given = go (bytes_eq x.id id) refl given (row_given id xs h.1)
    where
      go : (b : Bool) → bytes_eq x.id id ≡ b → option_map_or (λ r. explicit_source r.source) (cond b (Some x) (find (λ r. bytes_eq r.id id) xs)) false ≡ true →
          (is_given id xs ≡ true → (r : Row) × (find (λ r. bytes_eq r.id id) xs ≡ Some r) × Good id r.values) →
          (r : Row) × (cond b (Some x) (find (λ r. bytes_eq r.id id) xs) ≡ Some r) × Good id r.values
      go true same given rest = (x, refl, subst (λ (t : Text). Good t x.values) ((bytes_eq-Decides x.id id).0 same) h.0)
      go false same given rest = rest given
