use Rattle.std.proofs.Common.{rules, ◌≡◌, ◌∙◌, slice_get}
use Rattle.std.proofs.lemmas.List.Sums.{prefix_len-le-length}
use Rattle.pipe_text.specs.Token.{is_digit, is_word}
use Rattle.pipe_text.proofs.Lexing.{front_digits, front_quoted, front_sign, front_text, front_word}
use Rattle.pipe_text.proofs.front.front.Goals as goal

pub overflow_add-text : goal.overflow_add-text
overflow_add-text c = let a = prefix_len-le-length is_word c.in_ok-c.rest.now in let b = c.words.ensures in let d = c.in_ok-c.ensures.cases in search (rules, a)

pub returns-then-letter-clause-token : goal.returns-then-letter-clause-token
returns-then-letter-clause-token c = let a = c.in_ok-c.ensures.cases in let b = c.if-letter.ensures in let d = c.words.ensures in rw d (front_word c.args.line.now c.in_ok-c.c.now c.in_ok-c.rest.now a.0 (search rules))

pub overflow_add-text-then-digit : goal.overflow_add-text-then-digit
overflow_add-text-then-digit c = let a = prefix_len-le-length is_digit c.in_ok-c.rest.now in let b = c.digits.ensures in let d = c.in_ok-c.ensures.cases in search (rules, a)

pub returns-then-digit-clause-token : goal.returns-then-digit-clause-token
returns-then-digit-clause-token c = let a = c.in_ok-c.ensures.cases in let d = c.digits.ensures in rw d (front_digits c.args.line.now c.in_ok-c.c.now c.in_ok-c.rest.now a.0 (search rules) (search rules))

pub returns-then-c-eq96-clause-token : goal.returns-then-c-eq96-clause-token
returns-then-c-eq96-clause-token c = c.quoted.ensures.token ∙ front_quoted c.args.line.now c.in_ok-c.c.now c.in_ok-c.rest.now c.in_ok-c.ensures.cases.0 c.if-c-eq96.true

pub returns-then-c-eq34-clause-token : goal.returns-then-c-eq34-clause-token
returns-then-c-eq34-clause-token c = c.text.ensures.token ∙ front_text c.args.line.now c.in_ok-c.c.now c.in_ok-c.rest.now c.in_ok-c.ensures.cases.0 c.if-c-eq34.true

pub returns-in-None-clause-token : goal.returns-in-None-clause-token
returns-in-None-clause-token c = let a = c.in_ok-c.ensures.cases in let b = c.in-None.ensures in let d = c.copied.ensures in let e = c.first.ensures.value in front_sign c.args.line.now c.in_ok-c.c.now c.in_ok-c.rest.now _ a.0 (search rules) (search rules) c.if-c-eq96.false c.if-c-eq34.false (let next : c.copied.result ≡ slice_get c.in_ok-c.rest.now 0 = search (rules, d, e) in rw next at b)

pub returns-in-Some-clause-token : goal.returns-in-Some-clause-token
returns-in-Some-clause-token c = let a = c.in_ok-c.ensures.cases in let b = c.in-Some.ensures in let d = c.copied.ensures in let e = c.first.ensures.value in front_sign c.args.line.now c.in_ok-c.c.now c.in_ok-c.rest.now _ a.0 (search rules) (search rules) c.if-c-eq96.false c.if-c-eq34.false (let next : c.copied.result ≡ slice_get c.in_ok-c.rest.now 0 = search (rules, d, e) in rw next at b)
