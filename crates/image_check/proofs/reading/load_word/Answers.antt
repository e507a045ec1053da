use Rattle.std.proofs.Common.{◌≡◌, refl}
use Rattle.image_check.proofs.Looking.{load-reads, load-down, reads_exit}
use Rattle.image_check.proofs.reading.load_word.Goals as goal

pub returns-in_err-load-clause-reads : goal.returns-in_err-load-clause-reads
returns-in_err-load-clause-reads g c =
    let n = g.M.Memory.model c.load.new.self in
    let down = load-down {n = n} c.args.at c.in_err-load.field-0.0 c.requires.1.0 c.requires.1.1 c.in_err-load.ensures.gives in
    reads_exit n (λ v. v ≡ g.first.seen c.args.at) _ c.from_residual.result c.from_residual.ensures.1 refl down

pub returns-clause-reads : goal.returns-clause-reads
returns-clause-reads g c = load-reads c.args.at c.in_ok-load.field-0 c.requires.1.0 c.requires.1.1 c.in_ok-load.ensures.gives
