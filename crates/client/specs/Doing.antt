-- What a client's code hands back of a step that goes through.
use Rattle.protocol.specs.Client.{ClientState, ClientDoing}
use Rattle.client_calls.specs.declared.effects.ClientEffects.{ClientEffects}

abbrev pub doing : ClientState → ClientEffects → ClientDoing
doing s e = record { client = s; sent = e.sent; answer = e.answer }
