mod ConsumerLemmas
mod CountLemmas
mod Examples
mod HashingLemmas
mod LoopLemmas
mod OrderLemmas
mod TableLemmas
mod ReportLemmas
