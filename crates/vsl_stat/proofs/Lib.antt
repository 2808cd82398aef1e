mod GlobLemmas
mod JsonLemmas
mod ReportExamples
mod SelectLemmas
mod TableLemmas
