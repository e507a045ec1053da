use Rattle.std.proofs.Common.{[], map, length, refl, ◌∙◌, rules}
use Rattle.std.proofs.lemmas.List.{length-map}
use Rattle.piles.specs.Pile.{pile_model, pile-seen-may}
use Rattle.life.specs.Asked.{asked}
use Rattle.life.proofs.Beginning.{formats-alive, along-more, along-lives}
use Rattle.life.proofs.live.live.Goals as goal

pub loop-call-init : goal.loop-call-init
loop-call-init g c =
    let alive = formats-alive (pile_model g.M.Memory.model c.args.memory.now) (pile_model g.M.Memory.model c.format.new.memory) c.in_ok-format.ensures.formats in
    record { along = record { events = []; told = λ old h. h; alive = alive; same_ready = refl; all = refl }; lent = refl }

pub loop-call-preserved : goal.loop-call-preserved
loop-call-preserved g c =
    let inv = c.loop-call.invariant in
    let did = c.step-answer.ensures in
    let long = did.long ∙ c.loop-call.auto.buffer in
    record {
      along = along-more _ _ _ c.args.calls.now c.loop-call.call-index (length c.args.buffer.now) _ _ _ _ _ _ _ c.loop-call-test.true long inv.along (rw c.loop-call.auto.buffer at did.did) (rw c.loop-call.auto.buffer at did.ready) (search rules);
      lent = did.lent ∙ inv.lent;
    }

pub returns-clause-lives : goal.returns-clause-lives
returns-clause-lives g c =
    let calls = map (asked (length c.args.buffer.now)) c.args.calls.now in
    along-lives _ _ _ calls c.loop-call.call-index _ _ _ (pile-seen-may g.M.Memory.model g.M.Memory.seen_may c.loop-call.memory) (simp length-map c.loop-call-test.false) c.in_ok-format.ensures.formats c.loop-call.invariant.along
