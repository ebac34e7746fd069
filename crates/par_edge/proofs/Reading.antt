-- What the loop of a whole read keeps.
use Rattle.std.proofs.Common.{◌≡◌, ◌∙◌, sym, ap, ℕ, ◌+◌, ◌-◌, ◌<◌, ◌≤◌, List, [], ◌++◌, length, take, drop, Option, Some, None, unwrap_or, refl, inl, inr, arith, take-add}
use Rattle.std.proofs.lemmas.Grind.{common_steps}
use Rattle.par_edge.specs.Count.{raised}
use Rattle.par_edge.specs.Files.{File, IfTold, HoldsPart, IsLonger, file_of}
use Rattle.par_edge.specs.Shelves.{ShelfState, IsLaterShelf, Gives, GivesWhole, IsTooLong}

-- these are the first bytes of the named file
abbrev pub IsStart : List File → List ℕ → List ℕ → Type 0
IsStart files name items = take (length items) (unwrap_or (file_of files name) []) ≡ items

-- the reads since `before` gave these bytes, and no fault
pub record HasRead (before now : ShelfState) (name items : List ℕ) : Type 0 where
  pub later : IsLaterShelf before now
  pub given : now.given ≡ raised before.given (length items)
  pub start : IfTold before.files (λ files. IsStart files name items)

-- what is said of told files follows from what was said of them
pub told : (files : Option (List File)) (P Q R : List File → Type 0) → ((f : List File) → P f → Q f → R f) → IfTold files P → IfTold files Q → IfTold files R
told None P Q R f p q = tt
told (Some files) P Q R f p q = f files p q

pub told_one : (files : Option (List File)) (P R : List File → Type 0) → ((f : List File) → P f → R f) → IfTold files P → IfTold files R
told_one None P R f p = tt
told_one (Some files) P R f p = f files p

-- the later of two calls
pub later-twice : (before now after : ShelfState) → IsLaterShelf before now → IsLaterShelf now after → IsLaterShelf before after
later-twice before now after first second =
    let faults : before.faults ≤ now.faults = first.faults in
    let faults' : now.faults ≤ after.faults = second.faults in
    let given : before.given ≤ now.given = first.given in
    let given' : now.given ≤ after.given = second.given in
    record { files = second.files ∙ first.files; faults = omega (arith, faults, faults'); given = omega (arith, given, given') }

-- the start of the file grows by what a read gave
pub start-append : (files : List File) (name items : List ℕ) (count : ℕ) (buffer : List ℕ) → IsStart files name items → HoldsPart files name (length items) count buffer → IsStart files name (items ++ take count buffer)
start-append files name items count buffer start part =
    let start' : take (length items) part.bytes ≡ items = rw part.held at start in
    rw part.held (pieces part.bytes start' part.same part.there)
  where
    pieces : (bytes : List ℕ) → take (length items) bytes ≡ items → take count buffer ≡ take count (drop (length items) bytes) → count ≤ length bytes - length items → take (length (items ++ take count buffer)) bytes ≡ items ++ take count buffer
    pieces bytes start' same there =
        let size : length (items ++ take count buffer) ≡ length items + count = rw same (grind (arith, common_steps)) in
        rw (size, take-add (length items) count bytes, same, start') refl

-- one read more
pub goes_on : (before now after : ShelfState) (name items more : List ℕ) (start count : ℕ) (buffer : List ℕ) → HasRead before now name items → IsLaterShelf now after → Gives now after name start count buffer → start ≡ length items → more ≡ items ++ take count buffer → HasRead before after name more
goes_on before now after name items more start count buffer read later gives at is =
    let size : length (items ++ take count buffer) ≡ length items + count = let fits : count ≤ length buffer = gives.fits in grind (arith, common_steps, fits) in
    let first : now.given ≡ raised before.given (length items) = read.given in
    let second : after.given ≡ raised now.given count = gives.given in
    let P : List File → Type 0 = λ files. IsStart files name items in
    let Q : List File → Type 0 = λ files. HoldsPart files name start count buffer in
    let R : List File → Type 0 = λ files. IsStart files name (items ++ take count buffer) in
    let part : IfTold before.files Q = rw read.later.files at gives.part in
    rw is record {
      later = later-twice before now after read.later later;
      given = rw size (omega (arith, first, second));
      start = told before.files P Q R (λ files s p. start-append files name items count buffer s (rw at at p)) read.start part;
    }

-- a read at the end of the file gave nothing
pub ends : (before now after : ShelfState) (name items : List ℕ) (start limit : ℕ) (buffer : List ℕ) → HasRead before now name items → Gives now after name start 0 buffer → start ≡ length items → 0 < length buffer → length items ≤ limit → GivesWhole before after name limit items
ends before now after name items start limit buffer read gives at some fits =
    let first : now.given ≡ raised before.given (length items) = read.given in
    let second : after.given ≡ raised now.given 0 = gives.given in
    let P : List File → Type 0 = λ files. IsStart files name items in
    let Q : List File → Type 0 = λ files. HoldsPart files name start 0 buffer in
    let R : List File → Type 0 = λ files. file_of files name ≡ Some items in
    let part : IfTold before.files Q = rw read.later.files at gives.part in
    record {
      fits = fits;
      given = omega (arith, first, second);
      whole = told before.files P Q R (λ files s p. is_whole files s (rw at at p)) read.start part;
    }
  where
    is_whole : (files : List File) → IsStart files name items → HoldsPart files name (length items) 0 buffer → file_of files name ≡ Some items
    is_whole files s p =
        let s' : take (length items) p.bytes ≡ items = rw p.held at s in
        elim (p.ended.0 refl) [
          | inl done ↦ p.held ∙ ap (λ b. Some b) (let done' : length p.bytes ≤ length items = done in grind (arith, common_steps))
          | inr short ↦ absurd (omega (arith, short, some))
        ]

-- more bytes than the limit came
pub too_long : (before now : ShelfState) (name items : List ℕ) (limit : ℕ) → HasRead before now name items → limit < length items → IsTooLong before now name limit
too_long before now name items limit read long =
    let given : now.given ≡ raised before.given (length items) = read.given in
    record {
      came = omega (arith, given, long);
      longer = told_one before.files (λ files. IsStart files name items) (λ files. IsLonger files name limit) (λ files s. longer files (file_of files name) refl s) read.start;
    }
  where
    longer : (files : List File) (file : Option (List ℕ)) → file_of files name ≡ file → take (length items) (unwrap_or file []) ≡ items → IsLonger files name limit
    longer files None held start = let none : length items ≡ 0 = ap length (sym start) ∙ grind (arith, common_steps) in absurd (omega (arith, none, long))
    longer files (Some bytes) held start =
        let size : length (take (length items) bytes) ≡ length items = ap length start in
        let short : length (take (length items) bytes) ≤ length bytes = grind (arith, common_steps) in
        record { bytes = bytes; held = held; longer = omega (arith, size, short, long) }

-- no read yet
pub begun : (state : ShelfState) (name : List ℕ) → HasRead state state name []
begun state name = record { later = record { files = refl; faults = omega arith; given = omega arith }; given = omega arith; start = nothing state.files }
  where
    nothing : (files : Option (List File)) → IfTold files (λ fs. IsStart fs name [])
    nothing None = tt
    nothing (Some files) = refl
