-- What turns ask can be told apart.
use Rattle.std.specs.Coded.{Coded}
use Rattle.session_history.specs.declared.request.TurnRequest.{TurnRequest}
use Rattle.session_history.specs.contracts.request.TurnRequest as request

abbrev pub request_code : Coded TurnRequest
request_code = request.the_row.coded
