use Rattle.std.proofs.Common.{FitsSigned, refl, rules, w64}
use Rattle.std.proofs.lemmas.Int.{to_z-of_z}
use Rattle.par_laws.specs.Hash.{int_hash}
use Rattle.par_laws.proofs.hash.I64HashKey.hash32.Goals as goal

pub returns : goal.returns
unfolding int_hash
returns c =
    let fits : FitsSigned w64 c.args.self.now = search rules in
    rw (c.cast_unsigned-bits.ensures, to_z-of_z w64 c.args.self.now fits) refl
