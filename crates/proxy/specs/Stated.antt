-- The state of a declared proxy. It stands apart from the state itself, of which the proxy's own type says that every set
-- is housed.
use Rattle.proxy.specs.State.{State}
use Rattle.proxy.specs.declared.proxy.Proxy.{Proxy}

abbrev pub state_of : Proxy → State
state_of p = record { rows = p.rows.now; service = p.service }
