use Rattle.std.proofs.Common.{◌≡◌, ◌∙◌, length, ap, List, ℕ, min}
use Rattle.std.specs.Prelude.{slice_range}
use Rattle.pfl_reader.proofs.Whole.{ReadsLine-whole}
use Rattle.pfl_reader.proofs.line_reader.LineReader.take_whole.Goals as goal

pub returns-clause-line : goal.returns-clause-line
returns-clause-line g c = λ _.
    let body = c.between-body.ensures in
    let few : c.min.result ≡ min (length (slice_range c.take_line.new.self.block c.in-Some.place.from c.in-Some.place.to)) 512 =
    c.min.ensures ∙ ap (λ (l : List ℕ). min (length l) 512) body in
    rw (← c.self.view_is, c.of-self-inside.ensures, body) (ReadsLine-whole _ _ _ _ _ _ few c.in-Some.ensures.line.line)
