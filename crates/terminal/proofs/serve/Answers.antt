use Rattle.std.proofs.Common.{sym, subst, inr}
use Rattle.terminal.specs.Serving.{ReadFrom}
use Rattle.terminal.proofs.serve.Goals as goal

pub returns-in_err-run-clause-made : goal.returns-in_err-run-clause-made
returns-in_err-run-clause-made g c =
    let run = c.run.ensures.made in
    let read = subst (ReadFrom (g.R.Read.remaining c.args.reader)) (sym c.deref.ensures.value) c.in_ok-input.ensures in
    inr (run.0, run.1, (c.deref.result.now, c.in_ok-memory.memory, c.run.new.memory, read, c.in_ok-memory.ensures, run.2))

pub returns-clause-made : goal.returns-clause-made
returns-clause-made g c =
    let run = c.run.ensures.made in
    let read = subst (ReadFrom (g.R.Read.remaining c.args.reader)) (sym c.deref.ensures.value) c.in_ok-input.ensures in
    inr (run.0, run.1, (c.deref.result.now, c.in_ok-memory.memory, c.run.new.memory, read, c.in_ok-memory.ensures, run.2))

pub returns-clause-says : goal.returns-clause-says
returns-clause-says g c =
    let run = c.in_ok-run.ensures.says in
    let read = subst (ReadFrom (g.R.Read.remaining c.args.reader)) (sym c.deref.ensures.value) c.in_ok-input.ensures in
    (run.0, (c.deref.result.now, c.in_ok-memory.memory, c.run.new.memory, read, c.in_ok-memory.ensures, run.1), run.2)
