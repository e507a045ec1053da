use Rattle.std.proofs.Common.{[], ◌∷◌, ◌++◌, sym, ◌∙◌, subst, arith, rules}
use Rattle.std.specs.Io.KnownBytes.{Appends}
use Rattle.std.specs.List.{concat}
use Rattle.console.proofs.Running.{appends-twice, concat-last, fails-after, runs-last, turn-said}
use Rattle.console.proofs.turn.run.Goals as goal

pub loop-turn-preserved : goal.loop-turn-preserved
loop-turn-preserved g c =
    let first = g.S.Session.first in
    let tells = g.S.Session.tells in
    let l = c.loop-turn in
    let so_far = l.invariant.says in
    let one = turn-said first tells l.session c.take_turn.new.session l.memory c.take_turn.new.memory l.rest.now l.line c.take_turn.new.out c.in-Some.turn.rest.now c.in-Some.turn.written
    c.in-Some.ensures.turns l.invariant.buffer in
    let contents = g.W.Write.contents in
    let added : Appends (contents l.out) (contents c.write_all.new.self) one.0 = subst (Appends (contents l.out) (contents c.write_all.new.self)) one.3 c.in_ok-write_all.ensures.bytes in
    record {
      buffer = omega arith;
      lent = c.take_turn.ensures.lent ∙ l.invariant.lent;
      says = (
        so_far.0 ++ one.0 ∷ [],
        runs-last first tells so_far.0 one.0 c.args.session.now l.session c.take_turn.new.session c.args.memory.now l.memory c.take_turn.new.memory c.args.input.now l.rest.now c.in-Some.turn.rest.now so_far.1 one.1 one.2,
        subst (Appends (contents c.args.out.now) (contents c.write_all.new.self)) (sym (concat-last so_far.0 one.0))
            (appends-twice (contents c.args.out.now) (contents l.out) (contents c.write_all.new.self) (concat so_far.0) one.0 so_far.2 added),
      );
    }

pub returns-in_err-write_all : goal.returns-in_err-write_all
returns-in_err-write_all g c =
    let first = g.S.Session.first in
    let tells = g.S.Session.tells in
    let l = c.loop-turn in
    let so_far = l.invariant.says in
    let one = turn-said first tells l.session c.take_turn.new.session l.memory c.take_turn.new.memory l.rest.now l.line c.take_turn.new.out c.in-Some.turn.rest.now c.in-Some.turn.written
    c.in-Some.ensures.turns l.invariant.buffer in
    let ran = runs-last first tells so_far.0 one.0 c.args.session.now l.session c.take_turn.new.session c.args.memory.now l.memory c.take_turn.new.memory c.args.input.now l.rest.now c.in-Some.turn.rest.now so_far.1 one.1 one.2 in
    record {
      made = (so_far.0 ++ one.0 ∷ [], c.in-Some.turn.rest.now, ran);
      says = search rules;
      fails = fails-after first tells c.from_residual.result so_far.0 one.0 c.args.session.now c.take_turn.new.session c.args.memory.now c.take_turn.new.memory c.args.input.now c.in-Some.turn.rest.now ran;
      lent = c.take_turn.ensures.lent ∙ l.invariant.lent;
    }
