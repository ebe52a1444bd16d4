-- Lines are taken from known bytes one byte after another.
use Rattle.std.proofs.Common.{◌≡◌, ◌≢◌, ℕ, Bool, true, false, List, [], ◌∷◌, ◌++◌, take, refl, sym, ◌∙◌, ap, subst, inl, inr, cond, Option, Some, None, eqb}
use Rattle.std.specs.Prelude.{◌&&◌, suc}
use Rattle.pfl_reader.specs.declared.head.Head.{Head}
use Rattle.pfl_reader.specs.declared.head.Head.TheVariants.{Blank}
use Rattle.std.proofs.lemmas.Bool.{ne_eqb, and_parts}
use Rattle.std.proofs.lemmas.Bool.Decides.{eqb_tells}
use Rattle.std.proofs.lemmas.List.{append-nil}
use Rattle.pfl_reader.specs.Lines.{lines_of, with_first}
use Rattle.pfl_reader.specs.Scans.{Keeps, TakesLine, ReadsLine, IsOver}
use Rattle.pfl_reader.proofs.Scans.{carriage_of, prepend, Begins, Reads}
use Rattle.pfl_reader.specs.inner.Scans.{Carried, kept, nothing, pushed, settled, counted, added, TakesByte}
use Rattle.pfl_reader.proofs.Keeping.{Keeps-pushed, Keeps-settled}

-- one more byte goes onto the front of what follows
prepend-push : (body : List ℕ) (b : ℕ) (lines : List (List ℕ)) → prepend (body ++ b ∷ []) lines ≡ prepend body (with_first b lines)
prepend-push [] b lines = refl
prepend-push (x ∷ body) b lines = ap (with_first x) (prepend-push body b lines)

-- a line goes in front of the others
prepend-line : (body : List ℕ) (lines : List (List ℕ)) → prepend body ([] ∷ lines) ≡ body ∷ lines
prepend-line [] lines = refl
prepend-line (x ∷ body) lines = ap (with_first x) (prepend-line body lines)

-- a last line
prepend-last : (body : List ℕ) → body ≢ [] → prepend body [] ≡ body ∷ []
prepend-last [] h = absurd (h refl)
prepend-last (x ∷ []) h = refl
prepend-last (x ∷ y ∷ body) h = ap (with_first x) (prepend-last (y ∷ body) (λ e. cc))

-- the lines of an ended line
lines_of-end : (c : Bool) (bytes : List ℕ) → lines_of (carriage_of c ++ 10 ∷ bytes) ≡ [] ∷ lines_of bytes
lines_of-end true bytes = refl
lines_of-end false bytes = refl

-- a CR before another byte than LF is one of the line
lines_of-carriage : (c : Bool) (b : ℕ) (bytes : List ℕ) (body : List ℕ) → b ≢ 10 →
    prepend body (lines_of (carriage_of c ++ b ∷ bytes)) ≡ prepend (body ++ carriage_of c) (lines_of (b ∷ bytes))
lines_of-carriage false b bytes body h = rw append-nil refl
lines_of-carriage true b bytes body h = rw (prepend-push body 13 (lines_of (b ∷ bytes)), ne_eqb b 10 h) refl

-- another byte than CR and LF is one of the line
lines_of-byte : (b : ℕ) (bytes : List ℕ) (body : List ℕ) → b ≢ 10 → b ≢ 13 →
    prepend body (lines_of (b ∷ bytes)) ≡ prepend (body ++ b ∷ []) (lines_of bytes)
lines_of-byte b bytes body h i = rw (prepend-push body b (lines_of bytes), ne_eqb b 10 h, ne_eqb b 13 i) refl

-- a CR that came last is counted before another byte than LF
Begins-settled : (old mid new : Option (List ℕ)) (body : List ℕ) (c : Bool) (b : ℕ) →
    Begins old mid body c → TakesByte mid new (Some b) → b ≢ 10 → Begins old mid (body ++ carriage_of c) false
Begins-settled None mid new body c b h t i = tt
Begins-settled (Some xs) None new body c b h t i = h
Begins-settled (Some xs) (Some ys) None body c b h t i = absurd t
Begins-settled (Some xs) (Some ys) (Some zs) body c b h t i =
    let at : lines_of xs ≡ prepend body (lines_of (carriage_of c ++ b ∷ zs)) =
    subst (λ (y : List ℕ). lines_of xs ≡ prepend body (lines_of (carriage_of c ++ y))) t h in
    rw t (at ∙ lines_of-carriage c b zs body i)

-- a CR comes last
Begins-carriage : (old mid new : Option (List ℕ)) (body : List ℕ) →
    Begins old mid body false → TakesByte mid new (Some 13) → Begins old new body true
Begins-carriage None mid new body h t = tt
Begins-carriage (Some xs) None new body h t = absurd h
Begins-carriage (Some xs) (Some ys) None body h t = absurd t
Begins-carriage (Some xs) (Some ys) (Some zs) body h t = subst (λ (y : List ℕ). lines_of xs ≡ prepend body (lines_of y)) t h

-- another byte is taken
Begins-byte : (old mid new : Option (List ℕ)) (body : List ℕ) (b : ℕ) →
    Begins old mid body false → TakesByte mid new (Some b) → b ≢ 10 → b ≢ 13 → Begins old new (body ++ b ∷ []) false
Begins-byte None mid new body b h t i j = tt
Begins-byte (Some xs) None new body b h t i j = absurd h
Begins-byte (Some xs) (Some ys) None body b h t i j = absurd t
Begins-byte (Some xs) (Some ys) (Some zs) body b h t i j =
    subst (λ (y : List ℕ). lines_of xs ≡ prepend body (lines_of y)) t h ∙ lines_of-byte b zs body i j

-- the line ends
Begins-end : (old mid new : Option (List ℕ)) (body : List ℕ) (c : Bool) →
    Begins old mid body c → TakesByte mid new (Some 10) → TakesLine old new body
Begins-end None mid new body c h t = tt
Begins-end (Some xs) None new body c h t = absurd h
Begins-end (Some xs) (Some ys) None body c h t = absurd t
Begins-end (Some xs) (Some ys) (Some zs) body c h t =
    let at : lines_of xs ≡ prepend body (lines_of (carriage_of c ++ 10 ∷ zs)) =
    subst (λ (y : List ℕ). lines_of xs ≡ prepend body (lines_of (carriage_of c ++ y))) t h in
    at ∙ rw (lines_of-end c zs) (prepend-line body (lines_of zs))

-- the last line, which has no end
lines_of-last : (body : List ℕ) (c : Bool) → (body ++ carriage_of c) ≢ [] →
    prepend body (lines_of (carriage_of c ++ [])) ≡ (body ++ carriage_of c) ∷ []
lines_of-last body false n = let some : body ≢ [] = λ e. n (rw append-nil e) in rw append-nil (prepend-last body some)
lines_of-last body true n = sym (prepend-push body 13 []) ∙ prepend-last (body ++ 13 ∷ []) n

-- the last line ends with the bytes
Begins-last : (old mid new : Option (List ℕ)) (body : List ℕ) (c : Bool) → (body ++ carriage_of c) ≢ [] →
    Begins old mid body c → IsOver mid new → TakesLine old new (body ++ carriage_of c)
Begins-last None mid new body c n h t = tt
Begins-last (Some xs) None new body c n h t = absurd h
Begins-last (Some xs) (Some ys) None body c n h t = absurd t
Begins-last (Some xs) (Some ys) (Some zs) body c n h t =
    let at : lines_of xs ≡ prepend body (lines_of (carriage_of c ++ [])) =
    subst (λ (y : List ℕ). lines_of xs ≡ prepend body (lines_of (carriage_of c ++ y))) t.0 h in
    rw t.1 (at ∙ lines_of-last body c n)

-- one of three lists is not empty
three : (p q : Bool) (rest : List (List ℕ)) (b : ℕ) → (q ≡ true → rest ≢ []) → cond p ([] ∷ rest) (cond q rest (with_first b rest)) ≢ []
three true q rest b h e = cc
three false true rest b h e = h refl e
three false false [] b h e = cc
three false false (line ∷ rest) b h e = cc

-- bytes have a line
lines_of-some : (b : ℕ) (bytes : List ℕ) → lines_of (b ∷ bytes) ≢ []
lines_of-some b [] = three (eqb b 10) (eqb b 13 && false) [] b (λ e. let no = (and_parts (eqb b 13) false e).1 in cc)
lines_of-some b (c ∷ bytes) = three (eqb b 10) (eqb b 13 && eqb c 10) (lines_of (c ∷ bytes)) b (λ e. lines_of-some c bytes)

-- only nothing has no line
lines_of-none : (bytes : List ℕ) → lines_of bytes ≡ [] → bytes ≡ []
lines_of-none [] h = refl
lines_of-none (b ∷ bytes) h = absurd (lines_of-some b bytes h)

-- nothing has come of a line of which nothing is kept
body-none : (n : ℕ) (body : List ℕ) → take (suc n) body ≡ [] → body ≡ []
body-none n [] h = refl
body-none n (b ∷ body) h = cc

-- what is kept, of its parts
abbrev carried : List ℕ → Bool → Head → Bool → Carried
carried bytes long head carriage = record { bytes = bytes; long = long; head = head; carriage = carriage }

-- four equal parts
kept-equal : (k : Carried) → k.bytes ≡ [] → k.long ≡ false → k.head ≡ Blank → k.carriage ≡ false → k ≡ nothing
kept-equal k a b c d = let e : carried k.bytes k.long k.head k.carriage ≡ carried [] false Blank false = cc in e

-- nothing is kept of nothing
kept-none : (k : Carried) (body : List ℕ) (c : Bool) → Keeps (kept k) body → k.carriage ≡ c → body ++ carriage_of c ≡ [] → k ≡ nothing
kept-none k [] false h e n = kept-equal k h.bytes h.long h.head e
kept-none k [] true h e n = cc
kept-none k (b ∷ body) c h e n = cc

-- once a CR that came last is counted, none is left
settled-carriage : (k : Carried) (c : Bool) → k.carriage ≡ c → (cond c (counted k) k).carriage ≡ false
settled-carriage k true e = refl
settled-carriage k false e = e

-- of nothing nothing was taken
Begins-start : (old : Option (List ℕ)) → Begins old old [] false
Begins-start None = tt
Begins-start (Some xs) = refl

-- no byte was taken yet
pub Reads-start : (old : Option (List ℕ)) → Reads nothing old old
Reads-start old = record { body = []; keeps = record { bytes = refl; long = refl; head = refl }; begins = Begins-start old }

-- a CR was taken
Reads-carriage : (k : Carried) (old mid new : Option (List ℕ)) (body : List ℕ) → Keeps (kept k) body → Begins old mid body false →
    TakesByte mid new (Some 13) → Reads (record { bytes = k.bytes; long = k.long; head = k.head; carriage = true }) old new
Reads-carriage k old mid new body keeps begins t = record {
  body = body;
  keeps = record { bytes = keeps.bytes; long = keeps.long; head = keeps.head };
  begins = Begins-carriage old mid new body begins t;
}

-- another byte was taken
Reads-byte : (k : Carried) (old mid new : Option (List ℕ)) (body : List ℕ) (b : ℕ) → Keeps (kept k) body → Begins old mid body false →
    k.carriage ≡ false → TakesByte mid new (Some b) → b ≢ 10 → b ≢ 13 → Reads (pushed k b) old new
Reads-byte k old mid new body b keeps begins none t i j = record {
  body = body ++ b ∷ [];
  keeps = Keeps-pushed k body b keeps;
  begins = rw none (Begins-byte old mid new body b begins t i j);
}

-- one more byte of the line was taken
pub Reads-added : (k : Carried) (old mid new : Option (List ℕ)) (b : ℕ) → Reads k old mid → TakesByte mid new (Some b) → b ≢ 10 → Reads (added k b) old new
Reads-added k old mid new b h t i =
    let body = h.body ++ carriage_of k.carriage in
    let keeps = Keeps-settled k h.body h.keeps in
    let begins = Begins-settled old mid new h.body k.carriage b h.begins t i in
    elim (eqb_tells b 13) [
      | inl e ↦ rw e.0 (Reads-carriage (settled k) old mid new body keeps begins (subst (λ (x : ℕ). TakesByte mid new (Some x)) e.1 t))
      | inr e ↦ rw e.0 (Reads-byte (settled k) old mid new body b keeps begins (settled-carriage k k.carriage refl) t i e.1)
    ]

-- the line was taken with its end
pub Reads-end : (k : Carried) (old mid new : Option (List ℕ)) → Reads k old mid → TakesByte mid new (Some 10) → ReadsLine (kept k) old new
Reads-end k old mid new h t = record { body = h.body; keeps = h.keeps; takes = Begins-end old mid new h.body k.carriage h.begins t }

-- the last line was taken, which has no end
pub Reads-last : (k : Carried) (old mid new : Option (List ℕ)) → Reads k old mid → IsOver mid new → k ≢ nothing → ReadsLine (kept (settled k)) old new
Reads-last k old mid new h t n = record {
  body = h.body ++ carriage_of k.carriage;
  keeps = Keeps-settled k h.body h.keeps;
  takes = Begins-last old mid new h.body k.carriage (λ e. n (kept-none k h.body k.carriage h.keeps refl e)) h.begins t;
}

-- nothing was taken of nothing
Begins-none : (old mid new : Option (List ℕ)) → Begins old mid [] false → IsOver mid new → IsOver old new
Begins-none None mid new h t = tt
Begins-none (Some xs) None new h t = absurd h
Begins-none (Some xs) (Some ys) None h t = absurd t
Begins-none (Some xs) (Some ys) (Some zs) h t =
    let none : lines_of xs ≡ [] = subst (λ (y : List ℕ). lines_of xs ≡ lines_of y) t.0 h in
    (lines_of-none xs none, t.1)

-- there was no line
pub Reads-none : (k : Carried) (old mid new : Option (List ℕ)) → Reads k old mid → IsOver mid new → k ≡ nothing → IsOver old new
Reads-none k old mid new h t n =
    let none : h.body ≡ [] = body-none 511 h.body (sym h.keeps.bytes ∙ ap (λ (j : Carried). j.bytes) n) in
    let drained : k.carriage ≡ false = ap (λ (j : Carried). j.carriage) n in
    Begins-none old mid new (subst (λ (body : List ℕ). Begins old mid body false) none (subst (λ (c : Bool). Begins old mid h.body c) drained h.begins)) t
