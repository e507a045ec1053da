use Rattle.std.proofs.Common.{subst, arith}
use Rattle.layout.specs.Log.{Sound}
use Rattle.image_check.proofs.Checking.{Below, below-one, below-next, surveyed-exit}
use Rattle.image_check.proofs.image.survey_blocks.Given as given
use Rattle.image_check.proofs.image.survey_blocks.Goals as goal
use Rattle.image_check.proofs.image.survey_blocks.Goals.{In_ok-files}

-- the rules that the directory tells of
before : (g : given.Over) (c : In_ok-files g) → Below 4 c.in_ok-files.files.blocks g.first.seen
before g c =
    let h = c.in_ok-files.ensures.listed in
    let w = g.first.seen in
    let n = c.in_ok-files.files.blocks in
    below-next 3 n w (below-next 2 n w (below-next 1 n w (below-one n w) h.3) h.4) h.5

pub returns-in_err-check_maps-clause-surveyed : goal.returns-in_err-check_maps-clause-surveyed
returns-in_err-check_maps-clause-surveyed g c =
    let o = g.M.Memory.model c.check_maps.new.memory in
    let r = c.from_residual-in_err-check_maps in
    surveyed-exit 4 c.in_ok-files.files.blocks c.args.blocks g.first o _ r.result c.in_ok-files.ensures.listed.2 r.ensures.1 (omega arith) (omega arith) (before g (goal.at.returns-in_err-check_maps-clause-surveyed g c).In_ok-files) c.in_err-check_maps.ensures.tries

pub returns-in_err-used-clause-surveyed : goal.returns-in_err-used-clause-surveyed
returns-in_err-used-clause-surveyed g c =
    let o = g.M.Memory.model c.used_blocks.new.memory in
    let r = c.from_residual-in_err-used in
    let four = below-next 4 _ g.first.seen (before g (goal.at.returns-in_err-used-clause-surveyed g c).In_ok-files) c.in_ok-check_maps.ensures.tries.1 in
    surveyed-exit 5 c.in_ok-files.files.blocks c.args.blocks g.first o _ r.result c.in_ok-files.ensures.listed.2 r.ensures.1 (omega arith) (omega arith) four c.in_err-used.ensures.tries

pub returns-in_err-check_entry-clause-surveyed : goal.returns-in_err-check_entry-clause-surveyed
returns-in_err-check_entry-clause-surveyed g c =
    let o = g.M.Memory.model c.check_entry.new.memory in
    let r = c.from_residual-in_err-check_entry in
    let four = below-next 4 _ g.first.seen (before g (goal.at.returns-in_err-check_entry-clause-surveyed g c).In_ok-files) c.in_ok-check_maps.ensures.tries.1 in
    let five = below-next 5 _ g.first.seen four c.in_ok-used.ensures.tries.1 in
    surveyed-exit 6 c.in_ok-files.files.blocks c.args.blocks g.first o _ r.result c.in_ok-files.ensures.listed.2 r.ensures.1 (omega arith) (omega arith) five c.in_err-check_entry.ensures.tries

pub returns-clause-surveyed : goal.returns-clause-surveyed
returns-clause-surveyed g c =
    let h = c.in_ok-files.ensures.listed in
    let used = c.in_ok-used.ensures.tries in
    let last = c.in_ok-check_entry.ensures.tries in
    let sound : Sound c.in_ok-files.files.blocks g.first.seen = record { one = h.3; two = h.4; three = h.5; four = c.in_ok-check_maps.ensures.tries.1; five = used.1; six = last.1 } in
    (last.0, subst (λ n. Sound n g.first.seen) h.2 sound, h.1.lists, used.2)
