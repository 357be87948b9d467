use Rattle.std.proofs.Common.{◌≡◌}
use Rattle.sonic_value.proofs.ReaderLemmas.{same_source}
use Rattle.sonic_value.proofs.StringLemmas.{key_read}
use Rattle.sonic_value.proofs.reader.Reader.key.Goals as goal

pub returns-clause-ok : goal.returns-clause-ok
returns-clause-ok c =
    let passed = c.in_ok-key.ensures.ok in
    let source : c.pass_key.new.self.source ≡ c.args.self.now.source = same_source c.in_ok-key.ensures.moved in
    key_read passed.string passed.key (rw (source, passed.start) at c.in_ok-string.ensures)
