use Rattle.std.proofs.Common.{◌≡◌, ℕ, ◌/◌, ◌<◌, ap, ◌∙◌, inl, ⊎_elim, arith}
use Rattle.std.proofs.lemmas.Bool.Decides.{nat_tests}
use Rattle.memory.specs.Bytes.{word_at}
use Rattle.media.specs.ByteImage.{held, words_in}
use Rattle.media.proofs.Bytes.{length-with_word, word_at-same, word_at-other}
use Rattle.media.proofs.byte_image.ByteImageMemory.store.Goals as goal

pub returns-clause-gives : goal.returns-clause-gives
returns-clause-gives c =
    let bytes = held c.args.self.now in
    let at = c.args.at in
    let value = c.args.value in
    let stored = c.set_word.new.bytes in
    let took = c.in_ok-admit.ensures.value in
    let inside : at < words_in bytes = grind (arith, nat_tests) in
    let here : word_at stored at ≡ value = rw c.set_word.ensures (word_at-same bytes at value inside c.ranges.value.fits) in
    let other : (j : ℕ) → (j ≡ at → ⊥) → word_at stored j ≡ word_at bytes j =
    λ j ne. rw c.set_word.ensures (word_at-other bytes at value j inside ne) in (
      grind (arith, nat_tests),
      grind (arith, nat_tests),
      inside,
      record { here = here; elsewhere = λ j _ ne. other j ne },
      record {
        same_count = ap words_in c.set_word.ensures ∙ ap (λ n. n / 8) (length-with_word bytes at value inside);
        here = λ v is. ⊎_elim (λ e. inl (e ∙ here)) absurd is;
        elsewhere = λ j _ ne v is. ⊎_elim (λ e. inl (e ∙ other j ne)) absurd is;
      },
    )
