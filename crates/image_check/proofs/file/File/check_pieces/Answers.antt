use Rattle.std.proofs.Common.{sym, subst}
use Rattle.image_check.specs.Check.{PieceGood}
use Rattle.image_check.proofs.Looking.{tries-same}
use Rattle.image_check.proofs.file.File.check_pieces.Goals as goal

pub returns-clause-tries : goal.returns-clause-tries
returns-clause-tries g c =
    let Good = PieceGood g.first.seen c.args.self.now.root in
    let end = c.in_ok-end.ensures.reads.1 in
    let first = subst Good c.in_ok-start.ensures.reads.1 c.in_ok-check_piece.ensures.tries.1 in
    tries-same g.first (g.M.Memory.model c.check_piece-2.new.memory) _ _ _ _ c.check_piece-2.result c.check_piece-2.ensures.tries (λ last. (first, subst Good end last)) (λ both. subst Good (sym end) both.1)
