-- How a root, a state, a mark and a piece stand in a word.
use Rattle.std.specs.Prelude.{◌≡◌, ℕ, ◌/◌, ◌%◌, ◌^◌, ◌<◌, true, false, ◌==◌, List, ◌++◌, codes, Option, MatchOption, Result, MatchResult}
use Rattle.std.specs.Fmt.{decimal}
use Rattle.layout.specs.Image.{map_of, length_of}
use Rattle.layout.specs.Log.{no_piece, piece_of}
use Rattle.layout.specs.declared.root.Root.{Root}
use Rattle.layout.specs.declared.log.LogState.{LogState}
use Rattle.layout.specs.declared.log.LogState.TheVariants.{Free, Commit, Checkpoint}
use Rattle.layout.specs.declared.log.UnknownState.{UnknownState}
use Rattle.layout.specs.declared.log.Mark.{Mark}
use Rattle.layout.specs.declared.log.Piece.{Piece}

-- the root that a word tells of
pub record RootIn (word : ℕ) (root : Root) : Type 0 where
  pub map : root.map ≡ map_of word
  pub length : root.length ≡ length_of word

-- the word of a root, with zeros in bits 16 to 31
pub record RootWord (root : Root) (word : ℕ) : Type 0 where
  pub map : map_of word ≡ root.map
  pub length : length_of word ≡ root.length
  pub zeros : word / 2 ^ 16 % 2 ^ 16 ≡ 0

-- the number of a state
abbrev pub state_number : LogState → ℕ
state_number Free = 0
state_number Commit = 1
state_number Checkpoint = 2

-- the state of that number; an error carries the number, and no state has it
abbrev pub StateIn : ℕ → Result LogState UnknownState → Type 0
StateIn word r = MatchResult r (λ s. word ≡ state_number s) (λ e. (e.0 ≡ word) × (2 < word))

-- what is written of a number that is no state's
abbrev pub unknown_text : UnknownState → List ℕ
unknown_text e = codes "no state of the log has number " ++ decimal e.0

-- the mark that a word tells of
pub record MarkIn (word : ℕ) (mark : Mark) : Type 0 where
  pub slot : mark.slot ≡ word % 2 ^ 8
  pub follow : mark.follow ≡ (word / 2 ^ 8 % 2 == 1)

-- the word of a mark, with zeros above bit 8
pub record MarkWord (mark : Mark) (word : ℕ) : Type 0 where
  pub slot : word % 2 ^ 8 ≡ mark.slot
  pub follow : (word / 2 ^ 8 % 2 == 1) ≡ mark.follow
  pub small : word < 2 ^ 9

-- the piece that a word tells of, or none
abbrev pub PieceIn : ℕ → Option Piece → Type 0
PieceIn word piece = MatchOption piece (no_piece word ≡ true) (λ p. (no_piece word ≡ false) × (p.block ≡ (piece_of word).block) × (p.first ≡ (piece_of word).first) × (p.count ≡ (piece_of word).count))

-- the word of a piece, with zeros above bit 31
pub record PieceWord (piece : Piece) (word : ℕ) : Type 0 where
  pub block : (piece_of word).block ≡ piece.block
  pub first : (piece_of word).first ≡ piece.first
  pub count : (piece_of word).count ≡ piece.count
  pub small : word < 2 ^ 32
