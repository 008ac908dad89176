-- The connector of the code as the rules' connector.
use Rattle.rules.specs.Session as R
use Rattle.state.specs.View.{spec_of}
use Rattle.connector.specs.declared.Connector.{Connector}

unfoldable pub connector_of : Connector → R.Connector
connector_of c = record {
  spec = spec_of c.spec;
  counters = record { attempt_count = c.attempt_count; redirects_followed = c.redirects_followed; last_persisted_size = c.last_persisted_size.0 };
}
