use Rattle.std.proofs.Common.{◌%◌, ◌^◌, ◌/◌, eqb, refl, ap, ◌∙◌, subst, inl, inr, arith, rules}
use Rattle.image_check.proofs.Looking.{load-reads, load-down}
use Rattle.layout.specs.Packed.{PieceIn}
use Rattle.store.proofs.log_entry.load_log_entry.Goals as goal

pub returns-in_err-load-clause-reads : goal.returns-in_err-load-clause-reads
returns-in_err-load-clause-reads g c =
    let down = load-down 8 _ (inl refl) (omega (arith, c.requires.inside)) c.in_err-load.ensures.gives in search (rules, down)

pub returns-in_err-load-2-clause-reads : goal.returns-in_err-load-2-clause-reads
returns-in_err-load-2-clause-reads g c =
    let one = load-reads 8 _ (inl refl) (omega (arith, c.requires.inside)) c.in_ok-load.ensures.gives in
    let down = load-down 9 _ (inr one.0) (omega (arith, c.requires.inside)) c.in_err-load-2.ensures.gives in search (rules, down)

pub returns-in_err-load-3-clause-reads : goal.returns-in_err-load-3-clause-reads
returns-in_err-load-3-clause-reads g c =
    let one = load-reads 8 _ (inl refl) (omega (arith, c.requires.inside)) c.in_ok-load.ensures.gives in
    let two = load-reads 9 _ (inr one.0) (omega (arith, c.requires.inside)) c.in_ok-load-2.ensures.gives in
    let down = load-down 10 _ (inr two.0) (omega (arith, c.requires.inside)) c.in_err-load-3.ensures.gives in search (rules, down)

pub returns-in_err-load-4-clause-reads : goal.returns-in_err-load-4-clause-reads
returns-in_err-load-4-clause-reads g c =
    let one = load-reads 8 _ (inl refl) (omega (arith, c.requires.inside)) c.in_ok-load.ensures.gives in
    let two = load-reads 9 _ (inr one.0) (omega (arith, c.requires.inside)) c.in_ok-load-2.ensures.gives in
    let three = load-reads 10 _ (inr two.0) (omega (arith, c.requires.inside)) c.in_ok-load-3.ensures.gives in
    let down = load-down 11 _ (inr three.0) (omega (arith, c.requires.inside)) c.in_err-load-4.ensures.gives in search (rules, down)

pub returns-in_err-load-5-clause-reads : goal.returns-in_err-load-5-clause-reads
returns-in_err-load-5-clause-reads g c =
    let one = load-reads 8 _ (inl refl) (omega (arith, c.requires.inside)) c.in_ok-load.ensures.gives in
    let two = load-reads 9 _ (inr one.0) (omega (arith, c.requires.inside)) c.in_ok-load-2.ensures.gives in
    let three = load-reads 10 _ (inr two.0) (omega (arith, c.requires.inside)) c.in_ok-load-3.ensures.gives in
    let four = load-reads 11 _ (inr three.0) (omega (arith, c.requires.inside)) c.in_ok-load-4.ensures.gives in
    let down = load-down 12 _ (inr four.0) (omega (arith, c.requires.inside)) c.in_err-load-5.ensures.gives in search (rules, down)

pub returns-clause-reads : goal.returns-clause-reads
returns-clause-reads g c =
    let one = load-reads 8 _ (inl refl) (omega (arith, c.requires.inside)) c.in_ok-load.ensures.gives in
    let two = load-reads 9 _ (inr one.0) (omega (arith, c.requires.inside)) c.in_ok-load-2.ensures.gives in
    let three = load-reads 10 _ (inr two.0) (omega (arith, c.requires.inside)) c.in_ok-load-3.ensures.gives in
    let four = load-reads 11 _ (inr three.0) (omega (arith, c.requires.inside)) c.in_ok-load-4.ensures.gives in
    let five = load-reads 12 _ (inr four.0) (omega (arith, c.requires.inside)) c.in_ok-load-5.ensures.gives in (
      five.0,
      record {
        state = cc (one.1, c.in_ok-try_from.ensures);
        slot = c.from.ensures.slot ∙ ap (λ x. x % 2 ^ 8) two.1;
        follow = c.from.ensures.follow ∙ ap (λ x. eqb (x / 2 ^ 8 % 2) 1) two.1;
        old = three.1;
        start = subst (λ x. PieceIn x c.from_word.result) four.1 c.from_word.ensures;
        last = subst (λ x. PieceIn x c.from_word-2.result) five.1 c.from_word-2.ensures;
      },
    )
