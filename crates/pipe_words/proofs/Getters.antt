-- What the getters of clap's matches give, by the rows.
use Rattle.std.proofs.Common.{◌≡◌, List, [], map, Option, Some, None, unwrap_or, option_map, refl, ap, Bor}
use Rattle.pipe_words.specs.Parts.{Text}

-- the texts of a slice, or none
pub texts_or_none : (o : Option (Bor (List (Bor Text)))) (none : Bor (List (Bor Text))) → none.now ≡ []
    → map (λ t. t.now) (unwrap_or o none).now ≡ unwrap_or (option_map (λ (s : Bor (List (Bor Text))). map (λ t. t.now) s.now) o) []
texts_or_none None none e = ap (map (λ t. t.now)) e
texts_or_none (Some s) none e = refl
