use Rattle.std.proofs.Common.{◌∙◌, sym, rules}
use Rattle.store.proofs.Opening.{opens-cut, opens-busy, opens-done}
use Rattle.store.proofs.open.open.Goals as goal

pub returns-in_err-load-clause-opens : goal.returns-in_err-load-clause-opens
returns-in_err-load-clause-opens g c =
    let formed = sym c.is_well_formed.ensures ∙ c.if-not-is_well_formed.false in
    let cut = opens-cut c.args.name.now formed _ c.in_ok-survey.ensures.surveys _ c.in_err-load.ensures.gives in search (rules, cut)

pub returns-then-ne-clause-opens : goal.returns-then-ne-clause-opens
returns-then-ne-clause-opens g c =
    let formed = sym c.is_well_formed.ensures ∙ c.if-not-is_well_formed.false in
    opens-busy c.args.name.now formed _ c.in_ok-survey.ensures.surveys _ c.in_ok-try_from.field-0 c.in_ok-load.ensures.gives c.in_ok-try_from.ensures (search rules)

pub returns-clause-opens : goal.returns-clause-opens
returns-clause-opens g c =
    let formed = sym c.is_well_formed.ensures ∙ c.if-not-is_well_formed.false in
    opens-done c.args.name.now formed _ c.in_ok-survey.ensures.surveys _ c.in_ok-try_from.field-0 c.in_ok-load.ensures.gives c.in_ok-try_from.ensures (search rules)
