-- What a fork costs the other way: what the call comes to, what is asked of it in the document's words, and what the private functions ask and promise.
pub mod Cost
pub mod Truth
pub mod Local
