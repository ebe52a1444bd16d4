use Rattle.std.proofs.Common.{arith}
use Rattle.std.proofs.lemmas.Nat.{xor_lt}
use Rattle.std.proofs.Math.Facts.{Fits-of_lt}
use Rattle.pfl_containers.proofs.hash.mix.Goals as goal

pub overflow_mul-product : goal.overflow_mul-product
overflow_mul-product c = Fits-of_lt (omega (arith, xor_lt 64 c.args.hash c.args.word c.ranges.hash.fits c.ranges.word.fits))

pub overflow_cast-result-2 : goal.overflow_cast-result-2
overflow_cast-result-2 c = Fits-of_lt (omega (arith, xor_lt 64 c.args.hash c.args.word c.ranges.hash.fits c.ranges.word.fits))
