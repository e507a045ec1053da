-- A life goes on: what each call does keeps what is known of the memory, and the table explains it. Assumes nothing.
use Rattle.std.proofs.Common.{◌≡◌, ℕ, ◌*◌, ◌/◌, ◌<◌, ◌≤◌, Bool, true, false, cond, ◌⊎◌, List, [], ◌∷◌, Some, Ok, Err, Result, sym, refl, ◌∙◌, inl, inr, ⊎_elim, arith}
use Rattle.std.proofs.lemmas.Bool.{eqb-true, cases_Bool, cases_eq}
use Rattle.memory.specs.Model.{Model, In, Settled, Restarted}
use Rattle.memory.specs.Stores.{Words}
use Rattle.memory.proofs.Putting.{up-down}
use Rattle.layout.specs.Image.{Same}
use Rattle.layout.specs.Log.{Clean, FirstBroken, HoldsFiles, LeadsToFiles}
use Rattle.images.proofs.Frame.{same-sound, same-holds_files}
use Rattle.images.proofs.Holding.{holds-answer, holds_after, clean-leads}
use Rattle.layout.specs.Table.{Table, Ask, Reply, done, refuse, early, answer, after}
use Rattle.image_check.specs.Reading.{Looked}
use Rattle.image_check.specs.Size.{suits}
use Rattle.image_check.specs.declared.refusal.Refusal.{Refusal}
use Rattle.image_check.specs.declared.refusal.Refusal.TheVariants.{PowerLost, BadImage}
use Rattle.image_check.proofs.Sizing.{size-blocks}
use Rattle.store.specs.Calls.{reply, CallCut, Answered, Took, FileCall}
use Rattle.store.specs.Phase.{Drawn}
use Rattle.store.specs.Recover.{RecoverDone, RecoverCut, Recovering}
use Rattle.store.proofs.Recovery.{looked-settled, same-leads}
use Rattle.life.specs.Asked.{Asked, restart, recover, file}
use Rattle.life.specs.Life.{Event, ready, latest, Shows, FileTakes, RecoverTakes, RestartTakes, Takes, Explained, goes_on, empty}
use Rattle.life.specs.Step.{Buffered, put_back, Did}
use Rattle.life.proofs.Answering.{sound-unbroken, clean-unbroken, after-refused, cases-option, early-answer, shows, shows-early, blank}

-- What is known after the events of a life that began with memory f: there is a table that explains them, and
-- whatever image is found leads to such a table. With power the memory is settled; a ready store holds the table.
pub record Alive (f : Model) (es : List Event) (m : Model) : Type 0 where
  pub suitable : suits f.count ≡ true
  pub count : m.count ≡ f.count
  pub last : latest f es ≡ m
  pub found : (v : Words) → Drawn m v → (u : Table) × Explained f (empty (f.count / 32)) es u × LeadsToFiles (f.count / 32) v u
  pub settled : m.up ≡ true → Settled m
  pub held : m.up ≡ true → (u : Table) × Explained f (empty (f.count / 32)) es u × LeadsToFiles (f.count / 32) m.seen u × (ready es ≡ true → Clean (f.count / 32) m.seen × HoldsFiles m.seen u)

abbrev pub event : Asked → Reply → List ℕ → Model → Event
event a r bytes n = record { asked = a; reply = r; buffer = bytes; memory = n }

-- of a settled memory only the image seen can be found
pub settled_same : (n : ℕ) (m : Model) (v : Words) → Settled m → Drawn m v → 32 * n ≤ m.count → Same n m.seen v
settled_same n m v settled drawn size i lt = grind (arith, settled i (omega arith) (v i) (drawn i (omega arith)))

-- an image found leads to a table that the event takes an earlier one to
abbrev Reached : Model → List Event → Model → Event → Words → Type 0
Reached f es m e v = (u w : Table) × Explained f (empty (f.count / 32)) es u × Takes m u (ready es) e.asked e w × LeadsToFiles (f.count / 32) v w

module _ (f : Model) (es : List Event) (m : Model) (alive : Alive f es m) where
  big : 6 ≤ f.count / 32
  big = (size-blocks f.count (f.count / 32) alive.suitable refl).0

  size : 32 * (f.count / 32) ≤ m.count
  size = rw alive.count (size-blocks f.count (f.count / 32) alive.suitable refl).2

  -- the next event is explained
  next : (e : Event) (u v : Table) → Explained f (empty (f.count / 32)) es u → Takes m u (ready es) e.asked e v → Explained f (empty (f.count / 32)) (e ∷ es) v
  next e u v before takes = goes_on e before (rw alive.last takes)

  -- fewer images can be found
  drawn-fewer : (n : Model) (v : Words) → n.count ≡ m.count → ((i : ℕ) → i < m.count → (x : ℕ) → In x (n.may i) → In x (m.may i)) → Drawn n v → Drawn m v
  drawn-fewer n v count fewer drawn i lt = fewer i lt (v i) (drawn i (rw count lt))

  restart-takes : (u : Table) (r : Reply) (bytes : List ℕ) (n : Model) (b : Bool) → RestartTakes u (event restart r bytes n) u → Takes m u b restart (event restart r bytes n) u
  restart-takes u r bytes n true h = h
  restart-takes u r bytes n false h = h

  restarted : (up : Bool) (bytes : List ℕ) (n : Model) → Restarted m up n → Alive f (event restart (cond up (done []) (refuse 1)) bytes n ∷ es) n
  restarted true bytes n h =
      let e = event restart (done []) bytes n in
      let drawn : Drawn m n.seen = λ i lt. h.2 i lt in
      let now = alive.found n.seen drawn in
      let room : 32 * (f.count / 32) ≤ n.count = rw h.1 size in
      let told = next e now.0 now.0 now.1 (restart-takes now.0 (done []) bytes n (ready es) (refl, inr (refl, h.0))) in
      record {
        suitable = alive.suitable;
        count = h.1 ∙ alive.count;
        last = refl;
        found = λ v d. (now.0, told, same-leads (f.count / 32) n big room v now.0 (settled_same (f.count / 32) n v h.3 d room) now.2);
        settled = λ _. h.3;
        held = λ _. (now.0, told, now.2, λ no. cc);
      }
  restarted false bytes n h =
      let e = event restart (refuse 1) bytes n in
      record {
        suitable = alive.suitable;
        count = h.fewer.same_count ∙ alive.count;
        last = refl;
        found = λ v d.
            let now = alive.found v (drawn-fewer n v h.fewer.same_count (λ i lt x. h.fewer.fewer i lt x) d) in
            (now.0, next e now.0 now.0 now.1 (restart-takes now.0 (refuse 1) bytes n (ready es) (refl, inl (refl, h.down))), now.2);
        settled = λ up. absurd (up-down n.up up h.down);
        held = λ up. absurd (up-down n.up up h.down);
      }

  -- a call that left the memory as it was, and that every table explains so
  stays : (e : Event) → e.memory ≡ m → ready (e ∷ es) ≡ ready es → ((u : Table) → Takes m u (ready es) e.asked e u) → Alive f (e ∷ es) e.memory
  stays e is same takes =
      let still : Alive f es e.memory = rw is alive in
      record {
        suitable = alive.suitable;
        count = still.count;
        last = refl;
        found = λ v d. let now = still.found v d in (now.0, next e now.0 now.0 now.1 (takes now.0), now.2);
        settled = still.settled;
        held = λ up. let now = still.held up in (now.0, next e now.0 now.0 now.1 (takes now.0), now.2, λ yes. now.3 (sym same ∙ yes));
      }

  -- Power was lost in a call: without power before it the memory is as it was, and with power every image found leads to a
  -- table that the call takes an earlier one to.
  cut_off : (e : Event) → e.memory.up ≡ false → e.memory.count ≡ m.count
      → (m.up ≡ false → e.memory ≡ m)
      → ((u : Table) → Takes m u (ready es) e.asked e u)
      → (m.up ≡ true → (v : Words) → Drawn e.memory v → Reached f es m e v)
      → Alive f (e ∷ es) e.memory
  cut_off e down count still lost leads = record {
    suitable = alive.suitable;
    count = count ∙ alive.count;
    last = refl;
    found = λ v d. let h = ⊎_elim (λ up. leads up v d) (without v d) (cases_Bool m.up) in (h.1, next e h.0 h.1 h.2 h.3, h.4);
    settled = λ up. absurd (up-down e.memory.up up down);
    held = λ up. absurd (up-down e.memory.up up down);
  }
    where
      without : (v : Words) → Drawn e.memory v → m.up ≡ false → Reached f es m e v
      without v d off = let now = alive.found v (rw (still off) at d) in (now.0, now.0, now.1, lost now.0, now.2)

  -- a call was done, or refused with power: the image seen is clean and holds the table w
  done-with : (e : Event) (u w : Table) → e.memory.count ≡ m.count → Settled e.memory → Clean (f.count / 32) e.memory.seen → HoldsFiles e.memory.seen w → Explained f (empty (f.count / 32)) es u → Takes m u (ready es) e.asked e w → Alive f (e ∷ es) e.memory
  done-with e u w count settled clean holds before takes =
      let told = next e u w before takes in
      let room : 32 * (f.count / 32) ≤ e.memory.count = rw count size in
      record {
        suitable = alive.suitable;
        count = count ∙ alive.count;
        last = refl;
        found = λ v d. (w, told, clean-leads (f.count / 32) e.memory.seen v w big (settled_same (f.count / 32) e.memory v settled d room) clean holds);
        settled = λ _. settled;
        held = λ _. (w, told, clean-leads (f.count / 32) e.memory.seen e.memory.seen w big (λ i lt. refl) clean holds, λ _. (clean, holds));
      }

  suits-here : suits m.count ≡ true
  suits-here = rw alive.count alive.suitable

  blocks-here : m.count / 32 ≡ f.count / 32
  blocks-here = rw alive.count

  -- recovery
  module _ (bytes : List ℕ) (n : Model) (unread : ready es ≡ false) where
    recover-takes : (r : Reply) (u : Table) → RecoverTakes u (event recover r bytes n) u → Takes m u (ready es) recover (event recover r bytes n) u
    recover-takes r u h = rw unread h

    recover-done : (put : Bool) → RecoverDone (f.count / 32) m put n → Alive f (event recover (done (put_back put)) bytes n ∷ es) n
    recover-done put d =
        let now = alive.held d.was-up in
        let holds = d.holds now.0 now.2 in
        done-with (event recover (done (put_back put)) bytes n) now.0 now.0 d.count (d.settled (alive.settled d.was-up)) d.clean holds now.1
        (recover-takes (done (put_back put)) now.0 (refl, inr (refl, (holds, d.clean.sound.five))))

    recover-cut : RecoverCut (f.count / 32) m n → Alive f (event recover (refuse 1) bytes n ∷ es) n
    recover-cut cut = cut_off (event recover (refuse 1) bytes n) cut.down cut.count cut.still lost with-power
      where
        lost : (u : Table) → Takes m u (ready es) recover (event recover (refuse 1) bytes n) u
        lost u = recover-takes (refuse 1) u (refl, inl (refl, cut.down))

        with-power : m.up ≡ true → (v : Words) → Drawn n v → Reached f es m (event recover (refuse 1) bytes n) v
        with-power up v d = let now = alive.held up in (now.0, now.0, now.1, lost now.0, cut.leads (alive.settled up) v d now.0 now.2)

    never-bad : (k : ℕ) → Looked m n → FirstBroken k (f.count / 32) m.seen → ⊥
    never-bad k looked first = sound-unbroken k (f.count / 32) m.seen (alive.held looked.was-up).2.sound first

    recovered : (x : Result Bool Refusal) → Recovering (f.count / 32) m x n → Alive f (event recover (reply put_back x) bytes n ∷ es) n
    recovered (Ok put) h = recover-done put h
    recovered (Err PowerLost) h = recover-cut h
    recovered (Err (BadImage k)) h = absurd (never-bad _ h.0 h.1)
    recovered (Err _) h = absurd h

  -- a file call on a ready store
  module _ (a : Ask) (r : Reply) (bytes : List ℕ) (n : Model) (is-ready : ready es ≡ true) (buffered : Buffered m a r bytes) where
    file-takes : (u w : Table) → FileTakes u a (event (file a) r bytes n) w → Takes m u (ready es) (file a) (event (file a) r bytes n) w
    file-takes u w h = rw is-ready h

    file-refused : (u : Table) → r ≡ answer u a → (r.number ≡ 0 → ⊥) → Shows u a bytes → Takes m u (ready es) (file a) (event (file a) r bytes n) u
    file-refused u answers some show =
        file-takes u u (inr (answers, show, sym (after-refused u a (rw answers at some)), λ d. absurd (some (eqb-true r.number 0 d))))

    -- refused for its arguments
    file-early : (x : Reply) → early a ≡ Some x → r ≡ x → n ≡ m → Alive f (event (file a) r bytes n ∷ es) n
    file-early x wrong is same = stays (event (file a) r bytes n) same refl (λ u.
        let says = early-answer u a x wrong in
        let some : r.number ≡ 0 → ⊥ = rw is says.1 in
        let answers : r ≡ answer u a = is ∙ sym says.0 in
        file-refused u answers some (shows-early m u a r bytes answers some buffered))

    file-cut : r ≡ refuse 1 → CallCut (f.count / 32) m a n → Alive f (event (file a) r bytes n ∷ es) n
    file-cut is cut = cut_off (event (file a) r bytes n) cut.down cut.count cut.still (λ u. lost u u (inl refl)) with-power
      where
        lost : (u w : Table) → (w ≡ u) ⊎ (w ≡ after u a) → Takes m u (ready es) (file a) (event (file a) r bytes n) w
        lost u w choice = file-takes u w (inl ((is, cut.down), blank m a r bytes is buffered, choice))

        with-power : m.up ≡ true → (v : Words) → Drawn n v → Reached f es m (event (file a) r bytes n) v
        with-power up v d =
            let now = alive.held up in
            let h = now.3 is-ready in
            ⊎_elim {C = Reached f es m (event (file a) r bytes n) v} (λ l. (now.0, now.0, now.1, lost now.0 now.0 (inl refl), l)) (λ l. (now.0, after now.0 a, now.1, lost now.0 (after now.0 a) (inr refl), l))
            (cut.leads (alive.settled up) h.0 now.0 h.1 v d)

    file-answered : (u : Table) → Explained f (empty (f.count / 32)) es u → HoldsFiles m.seen u → Answered (f.count / 32) m a r n → Alive f (event (file a) r bytes n ∷ es) n
    file-answered u before holds ans = ⊎_elim ended turned-away (cases_eq r.number 0)
      where
        answers : r ≡ answer u a
        answers = ans.reply ∙ holds-answer m.seen u a ans.clean.sound.two holds

        show : Shows u a bytes
        show = shows m u a r bytes ans.clean.sound.two holds answers buffered

        ended : r.number ≡ 0 → Alive f (event (file a) r bytes n ∷ es) n
        ended z =
            let ch = ans.done z in
            let after_holds = holds_after m.seen n.seen u a ans.clean.sound.two holds ch.holds in
            done-with (event (file a) r bytes n) u (after u a) ch.count (ch.settled (alive.settled ans.was-up)) ch.clean after_holds before
            (file-takes u (after u a) (inr (answers, show, refl, λ _. (after_holds, ch.clean.sound.five))))

        turned-away : (r.number ≡ 0 → ⊥) → Alive f (event (file a) r bytes n ∷ es) n
        turned-away some =
            let looked = ans.refused some in
            let same : Same (f.count / 32) m.seen n.seen = λ i lt. looked.seen i (omega (arith, size)) in
            let clean : Clean (f.count / 32) n.seen = record { sound = same-sound (f.count / 32) m.seen n.seen big same ans.clean.sound; idle = same 8 (omega (arith, big)) ∙ ans.clean.idle } in
            done-with (event (file a) r bytes n) u u looked.fewer.same_count (looked-settled looked (alive.settled ans.was-up)) clean (same-holds_files (f.count / 32) m.seen n.seen u big same ans.clean.sound holds) before
            (file-refused u answers some show)

    file-took : Took (f.count / 32) m a r n → Alive f (event (file a) r bytes n ∷ es) n
    file-took (inl cut) = file-cut cut.0 cut.1
    file-took (inr (inl bad)) = absurd (clean-unbroken bad.0 (f.count / 32) m.seen ((alive.held bad.2.was-up).3 is-ready).0 bad.3)
    file-took (inr (inr ans)) = let now = alive.held ans.was-up in file-answered now.0 now.1 (now.3 is-ready).1 ans

    filed : FileCall m a r n → Alive f (event (file a) r bytes n ∷ es) n
    filed call =
        ⊎_elim (λ none. file-took (rw blocks-here at (call.taken none suits-here))) (λ x. let h = call.wrong x.0 x.1 in file-early x.0 x.1 h.0 h.1)
        (cases-option (early a))

-- What one call does keeps what is known.
pub lives-on : (f : Model) (es : List Event) (m : Model) (a : Asked) (r : Reply) (bytes : List ℕ) (n : Model) → Alive f es m → Did m (ready es) a r bytes n → Alive f (event a r bytes n ∷ es) n
lives-on f es m a r bytes n alive did = go a (ready es) refl did
  where
    went : (up : Bool) → Restarted m up n → r ≡ cond up (done []) (refuse 1) → Alive f (event restart r bytes n ∷ es) n
    went up h e = rw e (restarted f es m alive up bytes n h)

    not-allowed : (a : Asked) (b : Bool) → ready es ≡ b → r ≡ refuse 10 → n ≡ m → ready (event a (refuse 10) bytes n ∷ es) ≡ ready es → ((u : Table) → Takes m u b a (event a (refuse 10) bytes n) u) → Alive f (event a r bytes n ∷ es) n
    not-allowed a b e ten is same takes =
        rw ten (stays f es m alive (event a (refuse 10) bytes n) is same (λ u. rw e (takes u)))

    go : (a : Asked) (b : Bool) → ready es ≡ b → Did m b a r bytes n → Alive f (event a r bytes n ∷ es) n
    go restart true e h = went h.0 h.1 h.2
    go restart false e h = went h.0 h.1 h.2
    go recover true e h = not-allowed recover true e h.0 h.1 refl (λ u. (refl, refl, h.1))
    go recover false e h =
        rw h.2 (recovered f es m alive bytes n e h.0 (rw (blocks-here f es m alive) at (h.1.taken (suits-here f es m alive))))
    go (file x) true e h = filed f es m alive x r bytes n e h.1 h.0
    go (file x) false e h = not-allowed (file x) false e h.0 h.1 refl (λ u. (refl, refl, h.1))
