-- From clap's clause to the rule.
use Rattle.std.proofs.Common.{◌≡◌, inl, inr, true, List, [], ◌∷◌, map, Option, None, String, Global, string_bytes, refl, sym, subst}
use Rattle.std.proofs.lemmas.Str.{IsUtf8-string_bytes}
use Rattle.clap.specs.Walk.{Row}
use Rattle.clap.specs.Simple.{App, is_simple, matches_of}
use Rattle.clap.specs.Faults.{fault_of, is_simple_and_free}
use Rattle.clap.specs.Kinds.{HasKind, IsAmong, Kinds}
use Rattle.clap.specs.Values.{kind_of}
use Rattle.clap.specs.declared.error.Error.{Error}
use Rattle.clap.specs.declared.error.kind.ErrorKind.TheVariants.{OutOfMemory}
use Rattle.clap.specs.declared.error.kind.ErrorKind.{ErrorKind}
use Rattle.pipe_words.specs.App.{parcoll_app}
use Rattle.pipe_words.specs.Commands.{Asked, command_of}
use Rattle.pipe_words.proofs.Agreeing.{AreUtf8}
use Rattle.pipe_words.proofs.Outcomes.{Ended, Tells, ended}
use Rattle.pipe_words.proofs.Rules.{IsFault, is_fit}

pub is_simple_app : is_simple parcoll_app ≡ true
is_simple_app = refl

texts_utf8 : (words : List (String Global)) → AreUtf8 (map string_bytes words)
texts_utf8 [] = tt
texts_utf8 (word ∷ words) = (IsUtf8-string_bytes word, texts_utf8 words)

no_fault : (kinds : Kinds) → kinds ≡ [] → IsFault kinds → ⊥
no_fault [] e h = h
no_fault (k ∷ ks) e h = cc e

told : (kinds : Kinds) (rows : List Row) (c : Option Asked) → Ended kinds rows c → kinds ≡ [] → Tells rows c
told kinds rows c (inl h) e = absurd (no_fault kinds e h.0)
told kinds rows c (inr h) e = h.1

refused : (k : ErrorKind) (kinds : Kinds) (rows : List Row) (c : Option Asked) → Ended kinds rows c → IsAmong k kinds → c ≡ None
refused k kinds rows c (inl h) among = h.1
refused k [] rows c (inr h) among = absurd among
refused k (x ∷ xs) rows c (inr h) among = cc h.0

-- where clap takes the words, its rows tell what they ask for
pub words_told : (words : List (String Global)) → fault_of parcoll_app (map string_bytes words) ≡ []
    → Tells (matches_of parcoll_app (map string_bytes words)) (command_of (map string_bytes words))
words_told words e = told _ (matches_of parcoll_app (map string_bytes words)) _ (ended (map string_bytes words) (texts_utf8 words)) e

-- where it refuses them, they are not lawful
pub words_refused : (words : List (String Global)) (k : ErrorKind) → IsAmong k (fault_of parcoll_app (map string_bytes words)) → command_of (map string_bytes words) ≡ None
words_refused words k among = refused k _ (matches_of parcoll_app (map string_bytes words)) _ (ended (map string_bytes words) (texts_utf8 words)) among

-- the same of a command that is the grammar
pub app_told : (a : App) (words : List (String Global)) (rows : List Row) → a ≡ parcoll_app
    → (is_simple_and_free a ≡ true → fault_of a (map string_bytes words) ≡ [])
    → (is_simple a ≡ true → rows ≡ matches_of a (map string_bytes words))
    → Tells rows (command_of (map string_bytes words))
app_told a words rows is fault matches =
    let free : is_simple_and_free a ≡ true = rw is is_fit in
    let simple : is_simple a ≡ true = rw is is_simple_app in
    let none : fault_of parcoll_app (map string_bytes words) ≡ [] = subst (λ (x : App). fault_of x (map string_bytes words) ≡ []) is (fault free) in
    let same : rows ≡ matches_of parcoll_app (map string_bytes words) = subst (λ (x : App). rows ≡ matches_of x (map string_bytes words)) is (matches simple) in
    subst (λ (rs : List Row). Tells rs (command_of (map string_bytes words))) (sym same) (words_told words none)

pub app_refused : (a : App) (words : List (String Global)) (e : Error) → a ≡ parcoll_app
    → (is_simple_and_free a ≡ true → HasKind (fault_of a (map string_bytes words)) e)
    → (kind_of e ≡ OutOfMemory → ⊥) → command_of (map string_bytes words) ≡ None
app_refused a words e is kinds other = go (subst (λ (x : App). HasKind (fault_of x (map string_bytes words)) e) is (kinds (rw is is_fit)))
  where
    go : HasKind (fault_of parcoll_app (map string_bytes words)) e → command_of (map string_bytes words) ≡ None
    go (inl memory) = absurd (other memory)
    go (inr among) = words_refused words (kind_of e) among
