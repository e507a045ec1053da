-- What one call of a life does.
use Rattle.std.specs.Prelude.{◌≡◌, ℕ, Bool, true, false, cond, List, [], ◌∷◌, replicate, Result, ◌==◌}
use Rattle.memory.specs.Model.{Model, Restarted}
use Rattle.layout.specs.Image.{table_of}
use Rattle.layout.specs.Table.{Ask, create, write, read, shorten, rename, remove, Reply, done, refuse, buffer}
use Rattle.image_check.specs.declared.refusal.Refusal.{Refusal}
use Rattle.store.specs.Calls.{FileCall, reply}
use Rattle.store.specs.Recover.{Recovers}
use Rattle.life.specs.Asked.{Asked, restart, recover, file}

-- the buffer after a read
abbrev pub Buffered : Model → Ask → Reply → List ℕ → Type 0
Buffered m (create n) r bytes = Unit {0}
Buffered m (write n offset bs) r bytes = Unit {0}
Buffered m (read n offset count) r bytes = bytes ≡ cond (r.number == 0) (buffer (table_of m.seen) n offset count) (replicate count 0)
Buffered m (shorten n len) r bytes = Unit {0}
Buffered m (rename n o) r bytes = Unit {0}
Buffered m (remove n) r bytes = Unit {0}

-- recovery carries whether pieces were put back
abbrev pub put_back : Bool → List ℕ
put_back put = cond put 1 0 ∷ []

-- the call was made in a store that was ready or not
abbrev pub Did : Model → Bool → Asked → Reply → List ℕ → Model → Type 0
Did m true restart r bytes n = (up : Bool) × Restarted m up n × (r ≡ cond up (done []) (refuse 1))
Did m false restart r bytes n = (up : Bool) × Restarted m up n × (r ≡ cond up (done []) (refuse 1))
Did m true recover r bytes n = (r ≡ refuse 10) × (n ≡ m)
Did m false recover r bytes n = (x : Result Bool Refusal) × Recovers m x n × (r ≡ reply put_back x)
Did m true (file a) r bytes n = FileCall m a r n × Buffered m a r bytes
Did m false (file a) r bytes n = (r ≡ refuse 10) × (n ≡ m)
