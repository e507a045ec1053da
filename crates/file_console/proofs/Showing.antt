-- What a read shows. Assumes nothing.
use Rattle.std.proofs.Common.{◌≡◌, ℕ, ◌-◌, ◌<◌, ◌≤◌, true, ◌⊎◌, List, [], ◌∷◌, ◌++◌, length, get_or, take, Some, None, Ok, Err, Option, Result, sym, refl, ap, ◌∙◌, subst, inl, inr, ⊎_elim, arith}
use native.Mathlib.Nat.{min-le_left}
use Rattle.std.proofs.lemmas.List.{take-append-le, length-take-le}
use Rattle.std.proofs.lemmas.Bool.{cases_Bool, cases_lt}
use Rattle.memory.specs.Model.{Model}
use Rattle.layout.specs.Image.{table_of}
use Rattle.layout.specs.Names.{well_formed}
use Rattle.layout.specs.Table.{Table, Reply, answer, buffer, done, find, read, refuse}
use Rattle.image_check.specs.Size.{suits}
use Rattle.store.specs.Calls.{FileCall, broken}
use Rattle.console.specs.Denials.{number_of}
use Rattle.console.specs.Lines.{MayShow, Writes, Wrote, answer_line}
use Rattle.console.specs.declared.denial.Denial.{Denial}
use Rattle.file_console.specs.Answers.{carried_of}
use Rattle.file_console.specs.Outcomes.{count_of, said, shown_of}
use Rattle.file_console.specs.declared.answer.Done.{Done}

apart : (r q : Reply) → r ≡ q → r.number < q.number → ⊥
apart r q e lt = omega (arith, ap (λ x. x.number) e)

found-or : {X : Type 0} (o : Option X) → (o ≡ None) ⊎ ((x : X) × (o ≡ Some x))
found-or None = inl refl
found-or (Some x) = inr (x, refl)

-- the count that the file table answers
answer-few : (t : Table) (name : List ℕ) (offset count n : ℕ) → well_formed name ≡ true → done (n ∷ []) ≡ answer t (read name offset count) → n ≤ count
answer-few t name offset count n formed e = ⊎_elim (λ h. absurd (missing h)) (λ some. given some.0 some.1) (found-or (find name t.files))
  where
    first : Reply → ℕ
    first r = get_or r.carries 0 0

    missing : find name t.files ≡ None → ⊥
    missing h = apart (done (n ∷ [])) (refuse 4) (rw (formed, h) at e) (omega arith)

    given : (bs : List ℕ) → find name t.files ≡ Some bs → n ≤ count
    given bs h = omega (arith, ap first (rw (formed, h) at e), min-le_left count (length bs - offset))

-- a read that is done gave no more than was asked for
given-few : {m k : Model} (name : List ℕ) (offset count n : ℕ) → FileCall m (read name offset count) (done (n ∷ [])) k → n ≤ count
given-few {m} name offset count n call =
    ⊎_elim formed (λ bad. absurd (apart (done (n ∷ [])) (refuse 3) (call.wrong (refuse 3) (rw bad refl)).0 (omega arith))) (cases_Bool (well_formed name))
  where
    answered : well_formed name ≡ true → suits m.count ≡ true → n ≤ count
    answered good size =
        ⊎_elim (λ cut. absurd (apart (done (n ∷ [])) (refuse 1) cut.0 (omega arith)))
        (⊎_elim (λ bad. absurd (apart (done (n ∷ [])) (broken bad.0) bad.1 (omega arith)))
        (λ all. answer-few (table_of m.seen) name offset count n good all.reply))
        (call.taken (rw good refl) size)

    formed : well_formed name ≡ true → n ≤ count
    formed good =
        ⊎_elim (answered good) (λ odd. absurd (apart (done (n ∷ [])) (refuse 9) (call.size (rw good refl) odd).0 (omega arith)))
        (cases_Bool (suits m.count))

-- the same of a read into the front of a buffer
pub given-front : {m k : Model} (name bs : List ℕ) (offset count n : ℕ) → count ≤ length bs → FileCall m (read name offset (length (take count bs))) (done (n ∷ [])) k → n ≤ count
given-front name bs offset count n room call = omega (arith, length-take-le count bs room, given-few name offset (length (take count bs)) n call)

-- the bytes that the file gave, out of a buffer that begins with what the call filled
pub shown-front : (t : Table) (name : List ℕ) (offset count asked given : ℕ) (new rest : List ℕ) → asked ≡ count → given ≤ length new → new ≡ buffer t name offset asked
    → take given (new ++ rest) ≡ take given (buffer t name offset count)
shown-front t name offset count asked given new rest same le e = take-append-le given new rest le ∙ ap (take given) (e ∙ ap (buffer t name offset) same)

-- what an answer shows of a buffer of 32
may-show : (a : Result Done Denial) (bs : List ℕ) → length bs ≡ 32 → MayShow (number_of (said a)) (carried_of (said a)) (length (shown_of a bs))
may-show (Err denial) bs long = inl refl
may-show (Ok done) bs long =
    let all : length (take done.shown bs) ≡ done.shown = length-take-le done.shown bs (omega (arith, done.few)) in
    elim (cases_lt 0 done.shown) [
      | inl some ↦ inr (refl, done.counted some ∙ ap Some (sym all), omega (arith, done.few))
      | inr none ↦ inl (omega arith)
    ]

-- the number of an answer is that of what is said of it
number-said : (a : Result Done Denial) → number_of a ≡ number_of (said a)
number-said (Ok done) = refl
number-said (Err denial) = refl

-- a text that any buffer of 72 bytes has room for
wrote : (out text out' : List ℕ) (r : Option ℕ) → length text ≤ 72 → Writes out text r out' → Wrote out text r out'
wrote out text out' r few w = elim (cases_lt (length out) (length text)) [
  | inl less ↦ inr ((w.short less).0, omega arith, (w.short less).1)
  | inr room ↦ inl ((w.whole room).0, room, (w.whole room).1)
]

-- the line of an answer
pub wrote-answer : (a : Result Done Denial) (bs out out' : List ℕ) (l letter n k : ℕ) (v r : Option ℕ) → length bs ≡ 32 → l ≡ letter → n ≡ number_of a → v ≡ carried_of (said a) → k ≡ count_of a
    → Writes out (answer_line l n v (take k bs)) r out' → (MayShow n v (length (take k bs)) → length (answer_line l n v (take k bs)) ≤ 72)
    → Wrote out (answer_line letter (number_of (said a)) (carried_of (said a)) (shown_of a bs)) r out'
wrote-answer a bs out out' l letter n k v r long el en ev ek writes few =
    let en' : n ≡ number_of (said a) = en ∙ number-said a in
    let may : MayShow n v (length (take k bs)) = rw (en', ev, ek) (may-show a bs long) in
    let same : answer_line l n v (take k bs) ≡ answer_line letter (number_of (said a)) (carried_of (said a)) (shown_of a bs) = cc in
    subst (λ t. Wrote out t r out') same (wrote out (answer_line l n v (take k bs)) out' r (few may) writes)
