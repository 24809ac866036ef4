use Rattle.std.proofs.Common.{◌-◌, arith, refl}
use Rattle.record_codec.proofs.Places.{exits}
use Rattle.record_codec.proofs.Records.{body_as, body_fails, dep_fails, head_fails, record_of_parts, record_took, tags_as, tags_fails}
use Rattle.record_codec.proofs.record.read_record.Goals as goal

pub returns-in_err-host-clause-fault : goal.returns-in_err-host-clause-fault
returns-in_err-host-clause-fault c = exits c.from_residual.result _ c.from_residual.ensures.1 c.in_err-host.ensures.fault (head_fails _ _ _ _ _ c.requires.hosts)

pub returns-in_err-dep-clause-fault : goal.returns-in_err-dep-clause-fault
returns-in_err-dep-clause-fault c =
    exits c.from_residual-in_err-dep.result _ c.from_residual-in_err-dep.ensures.1 c.in_err-dep.ensures.fault
    (dep_fails _ _ _ _ (record { host = c.number.result; count = c.in_ok-host.field-0.toid - 1 }) _ (omega arith) c.requires.hosts c.number.ensures.value refl
    c.in_ok-host.ensures.ok c.in_ok-host.ensures.took)

pub returns-in_err-tags-clause-fault : goal.returns-in_err-tags-clause-fault
returns-in_err-tags-clause-fault c =
    exits c.from_residual-in_err-tags.result _ c.from_residual-in_err-tags.ensures.1 c.in_err-tags.ensures.fault
    (tags_fails _ _ _ _ _ _ (record { host = c.number.result; count = c.in_ok-host.field-0.toid - 1 }) _ _ c.requires.dcs.1 c.requires.hosts c.number.ensures.value refl
    c.in_ok-host.ensures.ok c.in_ok-host.ensures.took c.in_ok-dep.ensures.ok c.in_ok-dep.ensures.took c.fewest.ensures c.most.ensures)

pub returns-in_err-body-clause-fault : goal.returns-in_err-body-clause-fault
returns-in_err-body-clause-fault c =
    exits c.from_residual-in_err-body.result _ c.from_residual-in_err-body.ensures.1 c.in_err-body.ensures.fault
    (body_fails _ _ _ _ _ _ _ (record { host = c.number.result; count = c.in_ok-host.field-0.toid - 1 }) _ _ _ c.requires.dcs.1 c.requires.hosts c.number.ensures.value refl
    c.in_ok-host.ensures.ok c.in_ok-host.ensures.took c.in_ok-dep.ensures.ok c.in_ok-dep.ensures.took c.fewest.ensures c.most.ensures
    c.in_ok-tags.ensures.ok c.in_ok-tags.ensures.took c.longest.ensures.value)

pub returns-clause-ok : goal.returns-clause-ok
returns-clause-ok c =
    record_of_parts {own = record { host = c.number.result; count = c.in_ok-host.field-0.toid - 1 }} c.requires.hosts (record {
      head = c.in_ok-host.ensures.ok;
      own_host = c.number.ensures.value;
      own_count = refl;
      dep = c.in_ok-dep.ensures.ok;
      tags = tags_as _ _ _ _ _ c.fewest.ensures c.most.ensures c.in_ok-tags.ensures.ok;
      body = body_as _ _ _ c.longest.ensures.value c.in_ok-body.ensures.ok;
    })

pub returns-clause-took : goal.returns-clause-took
returns-clause-took c =
    record_took _ _ _ (record {
      host = c.in_ok-host.field-0.host;
      toid = c.in_ok-host.field-0.toid;
      session = c.in_ok-host.field-0.session;
      index = c.in_ok-host.field-0.index;
      kind = c.in_ok-host.field-0.kind;
      tags = c.in_ok-tags.tags;
      body = c.in_ok-body.body;
      dep = c.in_ok-dep.dep;
    }) c.number.ensures.value c.in_ok-host.ensures.took c.in_ok-dep.ensures.took c.in_ok-tags.ensures.took c.in_ok-body.ensures.took
