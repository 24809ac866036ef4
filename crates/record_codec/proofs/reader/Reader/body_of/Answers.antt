use Rattle.std.proofs.Common.{arith, refl, ap, ◌∙◌, ◌+◌, ℕ, List}
use Rattle.cz_base.specs.Text.{is_body_byte}
use Rattle.record_codec.specs.declared.fault.DecodeFault.TheVariants.{Malformed}
use Rattle.record_codec.proofs.Places.{err_of}
use Rattle.record_codec.proofs.Texts.{fails_bad, fails_short, bad_within}
use Rattle.record_codec.proofs.reader.Reader.body_of.Goals as goal

pub returns-then-here-len-clause-fault : goal.returns-then-here-len-clause-fault
returns-then-here-len-clause-fault c =
    fails_short is_body_byte _ 65 _ _ _ refl c.front-here.ensures c.if-here-len.true c.in-Ok.ensures.ok.1.allowed c.malformed.ensures

pub malformed-requires-in-Err-Byte : goal.malformed-requires-in-Err-Byte
malformed-requires-in-Err-Byte c =
    let bad = (c.in-Err-Byte.ensures.byte c.in-Err-Byte.at).0 (err_of (List ℕ) c.in-Err-Byte.field-0-is) in
    let within = bad_within is_body_byte _ _ _ _ c.front-here.ensures bad.1 in omega (arith, within, c.in-Err-Byte.at-is)

pub returns-in-Err-Byte-clause-fault : goal.returns-in-Err-Byte-clause-fault
returns-in-Err-Byte-clause-fault c =
    let bad = (c.in-Err-Byte.ensures.byte c.in-Err-Byte.at).0 (err_of (List ℕ) c.in-Err-Byte.field-0-is) in
    fails_bad is_body_byte _ _ 65 _ _ _ refl c.front-here.ensures bad.1
    (c.malformed-in-Err-Byte.ensures ∙ ap (λ (k : ℕ). Malformed (c.args.self.now.at + k)) c.in-Err-Byte.at-is)
