use Rattle.std.proofs.Common.{◌≡◌, ◌==◌, ◌++◌, ◌∙◌, ap, refl, sym, false, true, string_bytes, chars, is_ok, rules, arith, IfOk, encode_utf8, length}
use Rattle.std.proofs.lemmas.Str.{IsUtf8-string_bytes}
use Rattle.pipe_tokens.specs.Meaning.{unescaped}
use Rattle.pipe_tokens.proofs.Escapes.{reading_begins, reading_escape, reading_slash, reading_plain, reading_ends}
use Rattle.pipe_tokens.proofs.lexemes.read_escapes.Goals as goal

pub loop-c-init : goal.loop-c-init
loop-c-init c =
    let same : c.into_iter-c-iterator.result.rest.now ≡ c.args.text.now = search rules in
    rw same (reading_begins c.args.text.now (string_bytes c.new-out.result) c.utf8.text c.new-out.ensures.bytes)

pub loop-c-preserved-then-escaped : goal.loop-c-preserved-then-escaped
loop-c-preserved-then-escaped c =
    let good : is_ok c.push.result ≡ true = search rules in
    let bytes = rw good at c.push.ensures.bytes in
    reading_escape (string_bytes c.loop-c.out) c.loop-c.c-iterator.rest.now c.next.new.self.rest.now (unescaped false (chars c.args.text.now)) (string_bytes c.push.new.self) c.in-Some.c c.escape.result
    (rw c.if-escaped.true at c.loop-c.invariant) c.in-Some.ensures.steps.0 c.escape.ensures bytes

pub loop-c-preserved-then-c-eq92 : goal.loop-c-preserved-then-c-eq92
loop-c-preserved-then-c-eq92 c =
    reading_slash (string_bytes c.loop-c.out) c.loop-c.c-iterator.rest.now c.next.new.self.rest.now (unescaped false (chars c.args.text.now)) c.in-Some.c
    (rw c.if-escaped.false at c.loop-c.invariant) c.in-Some.ensures.steps.0 c.if-c-eq92.true

pub loop-c-preserved : goal.loop-c-preserved
loop-c-preserved c =
    let good : is_ok c.push-else-c-eq92.result ≡ true = search rules in
    let bytes = rw good at c.push-else-c-eq92.ensures.bytes in
    rw c.if-escaped.false (reading_plain (string_bytes c.loop-c.out) c.loop-c.c-iterator.rest.now c.next.new.self.rest.now (unescaped false (chars c.args.text.now)) (string_bytes c.push-else-c-eq92.new.self) c.in-Some.c
    (rw c.if-escaped.false at c.loop-c.invariant) c.in-Some.ensures.steps.0 (grind (arith, c.if-c-eq92.false)) bytes)

pub returns : goal.returns
returns c =
    let rest : length c.loop-c.c-iterator.rest.now ≡ 0 = search rules in
    rw (c.deref.ensures, reading_ends (string_bytes c.loop-c.out) c.loop-c.c-iterator.rest.now (unescaped false (chars c.args.text.now)) c.loop-c.escaped c.loop-c.invariant rest (IsUtf8-string_bytes c.loop-c.out)) at c.from_text.ensures
