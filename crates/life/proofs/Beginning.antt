-- A formatted memory holds no files, and so a life can begin. Assumes nothing.
use Rattle.std.proofs.Common.{◌≡◌, ℕ, ◌+◌, ◌*◌, ◌/◌, ◌<◌, ◌≤◌, Bool, true, false, not, eqb, List, [], ◌∷◌, ◌++◌, map, reverse, length, get_or, take, Ok, Option, Result, sym, refl, ap, ◌∙◌, ⊎_elim, arith}
use Rattle.std.proofs.lemmas.List.{reverse-append, map-append, length-map, get_or-map, take_more, take_all}
use Rattle.std.proofs.lemmas.Bool.{cases_Bool}
use Rattle.std.proofs.lemmas.Bool.Decides.{nat_tests}
use Rattle.memory.specs.Model.{Model, SeenMay}
use Rattle.memory.specs.Stores.{Words}
use Rattle.layout.specs.Image.{named, name_word, slot_blocks, slot_files, used_blocks, files_of}
use Rattle.layout.specs.Lists.{distinct}
use Rattle.layout.specs.Log.{Clean, HoldsFiles}
use Rattle.images.proofs.Directory.{no_blocks}
use Rattle.images.proofs.Holding.{holds-files, clean-leads}
use Rattle.images.proofs.Lists.{joined_same}
use Rattle.images.proofs.Rearranging.{rearranged-refl}
use Rattle.images.proofs.Slots.{no-file}
use Rattle.image_check.specs.Size.{suits}
use Rattle.image_check.proofs.Sizing.{size-blocks}
use Rattle.store.specs.Format.{formatted, Formatted, Formats}
use Rattle.life.specs.Asked.{Asked, restart, asked}
use Rattle.life.specs.Life.{Event, is_done, ready_after, ready, begins, empty, Lived}
use Rattle.life.specs.Step.{Did}
use Rattle.life.specs.Told.{reply_of, event, Lives}
use Rattle.life.specs.declared.answer.Denial.{Denial}
use Rattle.life.specs.declared.call.Call.{Call}
use Rattle.life.specs.declared.call.Call.TheVariants.{Restart}
use Rattle.life.proofs.Living.{Alive, settled_same, lives-on}

-- an image with no name has no files
module _ (n : ℕ) (w : Words) (size : w 0 ≡ n) (idle : w 8 ≡ 0) (bare : (s : ℕ) → s < 16 → name_word w s ≡ 0) where
  unnamed : (s : ℕ) → s < 16 → named w s ≡ false
  unnamed s lt = ap (λ x. not (eqb x 0)) (bare s lt)

  never : {X : Type 0} (s : ℕ) → s < 16 → named w s ≡ true → X
  never s lt name = let no = unnamed s lt in cc

  no-used : used_blocks w ≡ []
  no-used = joined_same (slot_blocks w) (λ s. []) 0 16 (λ s lt. no_blocks w s (unnamed s (omega arith)))

  pub no-files : files_of w ≡ []
  no-files = joined_same (slot_files w) (λ s. []) 0 16 (λ s lt. no-file w s (unnamed s (omega arith)))

  pub bare-clean : Clean n w
  bare-clean = record {
    sound = record {
      one = size;
      two = record { formed = λ s lt name. never s lt name; differ = λ s u less lt name. never s (omega arith) name };
      three = λ s lt name. never s lt name;
      four = λ s k lt name. never s lt name;
      five = ap distinct no-used;
      six = record { known = rw idle (omega arith); entry = λ busy. absurd (busy idle) };
    };
    idle = idle;
  }

-- the image that format leaves
formatted-slot : (blocks : ℕ) (w : Words) (s : ℕ) → s < 16 → formatted blocks w (64 + 2 * s) ≡ 0
formatted-slot blocks w s lt = grind (arith, nat_tests)

pub begins-alive : (m f : Model) → suits m.count ≡ true → Formatted (m.count / 32) m f → Alive f [] f
begins-alive m f t h =
    let blocks : f.count / 32 ≡ m.count / 32 = rw h.count in
    let suitable : suits f.count ≡ true = rw h.count t in
    let c = size-blocks f.count (f.count / 32) suitable refl in
    let zero : f.seen 0 ≡ f.count / 32 = h.seen 0 (omega (arith, c.0, c.2)) ∙ sym blocks in
    let idle : f.seen 8 ≡ 0 = h.seen 8 (omega (arith, c.0, c.2)) in
    let bare : (s : ℕ) → s < 16 → name_word f.seen s ≡ 0 = λ s lt. h.seen (64 + 2 * s) (omega (arith, c.0, c.2)) ∙ formatted-slot (m.count / 32) m.seen s lt in
    let clean = bare-clean (f.count / 32) f.seen zero idle bare in
    let none = no-files (f.count / 32) f.seen zero idle bare in
    let holds : HoldsFiles f.seen (empty (f.count / 32)) = holds-files (f.count / 32) f.seen (empty (f.count / 32)) clean.sound zero (rw none (rearranged-refl [])) in
    record {
      suitable = suitable;
      count = refl;
      last = refl;
      found = λ v d. (empty (f.count / 32), begins, clean-leads (f.count / 32) f.seen v (empty (f.count / 32)) c.0 (settled_same (f.count / 32) f v h.settled d c.2) clean holds);
      settled = λ _. h.settled;
      held = λ _. (empty (f.count / 32), begins, clean-leads (f.count / 32) f.seen f.seen (empty (f.count / 32)) c.0 (λ i lt. refl) clean holds, λ _. (clean, holds));
    }

-- the image seen can be found, and so some table explains the life
alive-lived : (f : Model) (es : List Event) (m : Model) (calls : List Asked) → SeenMay m → Alive f es m → map (λ (e : Event). e.asked) (reverse es) ≡ calls → Lived f calls es
alive-lived f es m calls seen alive all = let now = alive.found m.seen seen in record { all = all; choice = (now.0, now.1) }

-- format that is done begins a life
pub formats-alive : (m f : Model) → Formats m (Ok tt) f → Alive f [] f
formats-alive m f h = ⊎_elim (λ t. ⊎_elim (λ d. begins-alive m f t d.1) (λ e. cc) (h.taken t)) (λ no. cc ((h.refused no).0)) (cases_Bool (suits m.count))

-- After some of the calls of a life: the events that the witness was told of them, and what is known by them.
pub record Along (f : Model) (calls : List Asked) (before now : List Event → Type 0) (is_ready : Bool) (m : Model) : Type 0 where
  pub events : List Event
  pub told : (old : List Event) → before old → now (events ++ old)
  pub alive : Alive f events m
  pub same_ready : is_ready ≡ ready events
  pub all : map (λ (e : Event). e.asked) (reverse events) ≡ calls

asked-more : (es : List Event) (calls : List Asked) (i : ℕ) (e : Event) → i < length calls → e.asked ≡ get_or calls i restart → map (λ (x : Event). x.asked) (reverse es) ≡ take i calls → map (λ (x : Event). x.asked) (reverse (e ∷ es)) ≡ take (i + 1) calls
asked-more es calls i e lt is before = rw (reverse-append (e ∷ []) es, map-append, before, is) (sym (take_more calls i restart lt))

pub along-more : (f m n : Model) (calls : List Call) (i count : ℕ) (before now next : List Event → Type 0) (b x : Bool) (answer : Result (Option ℕ) Denial) (bytes : List ℕ)
    → i < length calls
    → length bytes ≡ count
    → Along f (take i (map (asked count) calls)) before now b m
    → Did m b (asked count (get_or calls i Restart)) (reply_of answer) bytes n
    → x ≡ ready_after (asked count (get_or calls i Restart)) (is_done (reply_of answer)) b
    → ((es : List Event) → now es → next (event (get_or calls i Restart) answer bytes n ∷ es))
    → Along f (take (i + 1) (map (asked count) calls)) before next x n
along-more f m n calls i count before now next b x answer bytes lt long along did is told =
    let call = get_or calls i Restart in
    let r = reply_of answer in
    let es = along.events in
    record {
      events = event call answer bytes n ∷ es;
      told = λ old h. told (es ++ old) (along.told old h);
      alive = lives-on f es m (asked (length bytes) call) r bytes n along.alive (rw (long, ← along.same_ready) did);
      same_ready = rw (long, ← along.same_ready) is;
      all = asked-more es (map (asked count) calls) i (event call answer bytes n) (simp length-map lt) (rw long (sym (get_or-map (asked count) calls i Restart restart lt))) along.all;
    }

-- all calls are made, and the life is lived
pub along-lives : (m f n : Model) (calls : List Asked) (i : ℕ) (before now : List Event → Type 0) (b : Bool) → SeenMay n → length calls ≤ i → Formats m (Ok tt) f → Along f (take i calls) before now b n → Lives m calls (Ok tt) before now n
along-lives m f n calls i before now b seen all formats along =
    (f, formats, (along.events, alive-lived f along.events n calls seen along.alive (along.all ∙ take_all i calls all), sym along.alive.last, along.told))
