use Rattle.std.proofs.Common.{◌≡◌, None, rules}
use Rattle.pfl_doors.proofs.Screening.{fewer}
use Rattle.pfl_doors.proofs.screened.Screened.judge.Goals as goal

-- the front has grown, or it is known
pub loop-self-smaller : goal.loop-self-smaller
loop-self-smaller g c =
    let unknown : c.loop-self.self.verdict ≡ None = search rules in
    rw unknown (fewer c.read_front.new.self.verdict c.loop-self.self.front c.read_front.new.self.front c.read_front.ensures.few c.in_ok-read_front.ensures.grows)
