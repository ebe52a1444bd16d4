use Rattle.std.proofs.Common.{◌∙◌, arith, refl, codes}
use Rattle.std.proofs.lemmas.Result.{err_from_is_err_and, on_err_weaker}
use Rattle.pfl_script.specs.Replies.{placed}
use Rattle.pfl_script.proofs.Lists.{pushed_name, text_split}
use Rattle.pfl_script.proofs.Pieces.{all-but-part}
use Rattle.pfl_script.proofs.Placing.{placed-more, placed-part}
use Rattle.pfl_script.proofs.places.write_excised.Goals as goal

-- one place more
pub loop-place-preserved : goal.loop-place-preserved
loop-place-preserved g c = record {
  room = omega (arith, c.in_ok-make_room.ensures.room);
  written = placed-more _ _ _ _ _ _ _ _ _ c.loop-place.invariant.written c.in_ok-make_room.ensures.whole
      (pushed_name _ _ _ _ _ refl c.push_str.ensures.bytes c.push_number.ensures.bytes) refl c.loop-place-test.true;
  stays = c.in_ok-make_room.ensures.stays ∙ c.loop-place.invariant.stays;
}

-- a piece was written in part
pub returns-in_err-make_room-clause-part : goal.returns-in_err-make_room-clause-part
returns-in_err-make_room-clause-part g c =
    let p = err_from_is_err_and c.from_residual.result c.from_residual.ensures.1 in
    let part = c.in_err-make_room.ensures.part in
    rw p.1 (all-but-part _ _ _ _ _ _ _ part.0 c.loop-place.invariant.written
    (text_split placed c.args.places.now c.loop-place.place-index (codes "excised") (codes "\n")) part.1 part.2)

-- the last piece was written in part
pub returns-clause-part : goal.returns-clause-part
returns-clause-part g c =
    on_err_weaker c.write_text.result (λ part.
    placed-part _ _ _ c.args.places.now c.loop-place.place-index _ c.as_bytes.result.now part.0 c.loop-place.invariant.written c.loop-place-test.false
    (c.as_bytes.ensures.value ∙ (c.as_str.ensures.value ∙ c.push_str-2.ensures.bytes)) part.1 part.2) c.write_text.ensures.part
