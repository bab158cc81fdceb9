use Rattle.std.proofs.Common.{not, refl, arith}
use Rattle.std.proofs.lemmas.Simd.{zip2_splat}
use Rattle.json_tokens.specs.Sequence.{is_space}
use Rattle.json_tokens.proofs.Lanes.{joined, mask_of}
use Rattle.json_tokens.proofs.runs.SpacesByteClass.others.Goals as goal

pub returns : goal.returns
returns c =
    let v = c.args.lanes in
    let long = c.fits-lanes.0 in
    mask_of _ (λ b. not (is_space b)) refl v _ (omega arith) c.fits-lanes.1
    (joined _ _ _ v (joined _ _ _ v (joined _ _ _ v (zip2_splat _ v 16 32 long) (zip2_splat _ v 16 9 long)) (zip2_splat _ v 16 10 long)) (zip2_splat _ v 16 13 long))
