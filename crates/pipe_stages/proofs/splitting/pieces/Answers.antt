use Rattle.std.proofs.Common.{rules, ◌≡◌, ℕ, Bor, List, [], ◌∷◌, ◌++◌, map, ap, sym, ◌∙◌, append_assoc}
use Rattle.std.specs.Str.{IsUtf8, chars}
use Rattle.std.proofs.lemmas.List.{map-append}
use Rattle.pipe_stages.specs.Pieces.{pieces}
use Rattle.pipe_stages.proofs.Cut.{first_piece, last_piece}
use Rattle.pipe_stages.proofs.splitting.pieces.Goals as goal

abbrev spelled : Bor (List ℕ) → List ℕ
spelled p = chars p.now

-- one piece more
more : (done : List (Bor (List ℕ))) (piece : Bor (List ℕ)) (rest : List (List ℕ)) → map spelled (done ++ piece ∷ []) ++ rest ≡ map spelled done ++ spelled piece ∷ rest
more done piece rest = ap (λ l. l ++ rest) (map-append spelled done (piece ∷ [])) ∙ append_assoc (map spelled done) (spelled piece ∷ []) rest

pub loop-piece-preserved : goal.loop-piece-preserved
loop-piece-preserved c =
    let sep = c.args.separator.now in
    let first : IsUtf8 c.in-Some.piece.now = search rules in
    record {
      cut =
          ap (λ items. map spelled items ++ pieces (chars sep) (chars c.in-Some.after.now)) c.in_ok-push.ensures.items
          ∙ (more c.loop-piece.all.items c.in-Some.piece (pieces (chars sep) (chars c.in-Some.after.now))
          ∙ (ap (λ l. map spelled c.loop-piece.all.items ++ l) (sym (first_piece sep c.loop-piece.rest.now c.utf8.separator c.loop-piece.invariant.left c.in-Some.piece.now c.in-Some.after.now first c.requires c.in-Some.ensures.cases))
          ∙ c.loop-piece.invariant.cut));
      left = search rules;
    }

pub returns : goal.returns
returns c =
    let sep = c.args.separator.now in
    let left = c.loop-piece.rest.now in
    ap (map spelled) c.in_ok-push-2.ensures.items
    ∙ (map-append spelled c.loop-piece.all.items (c.loop-piece.rest ∷ [])
    ∙ (ap (λ l. map spelled c.loop-piece.all.items ++ l) (sym (last_piece sep left c.utf8.separator c.loop-piece.invariant.left c.in_default.ensures.cases)) ∙ c.loop-piece.invariant.cut))
